use Rattle.std.proofs.Common.{take}
use Rattle.wac_merge_imports.specs.private.unions.BoundNames.{AddsNames}
use Rattle.wac_merge_imports.proofs.unions.bound.put_names.Given as goal

abbrev pub invariant-loop-i : goal.invariant-loop-i
invariant-loop-i l = AddsNames l.bindings l.number (take l.i l.items) l.initial.names l.names
