use Rattle.wac_merge_classes.specs.private.entries.Walking.{AreBound}
use Rattle.std.proofs.Common.{take}
use Rattle.wac_merge_classes.proofs.entries.naming.bound_in.Given as goal

abbrev pub invariant-loop-position : goal.invariant-loop-position
invariant-loop-position l = AreBound l.types (take l.position l.scopes) l.bound.items
