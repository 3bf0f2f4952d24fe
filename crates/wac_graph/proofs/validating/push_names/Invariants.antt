use Rattle.std.proofs.Common.{◌≡◌, ◌++◌, map, string_bytes, take}
use Rattle.wac_names.specs.private.validation.Views.{texts}
use Rattle.wac_graph.proofs.validating.push_names.Given as goal

abbrev pub invariant-loop-i : goal.invariant-loop-i
invariant-loop-i l = texts l.names.items ≡ texts l.initial.names.items ++ map string_bytes (take l.i l.more)
