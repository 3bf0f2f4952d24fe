use Rattle.std.proofs.Common.{◌≡◌, map, take}
use Rattle.wac_names.specs.private.validation.Views.{texts}
use Rattle.wac_graph_encode.proofs.places.places.import_names.Given as goal

abbrev pub invariant-loop-i : goal.invariant-loop-i
invariant-loop-i l = texts l.names.items ≡ map (λ e. e.0) (take l.i l.imports)
