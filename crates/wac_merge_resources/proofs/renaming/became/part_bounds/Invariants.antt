use Rattle.std.proofs.Common.{◌≡◌, length, take}
use Rattle.wac_merge_classes.specs.terms.Became.{AreBoundParts}
use Rattle.wac_merge_resources.proofs.renaming.became.part_bounds.Given as goal

abbrev pub invariant-loop-p : goal.invariant-loop-p
invariant-loop-p l = record { counted : length l.bounds.items ≡ l.p; bound : AreBoundParts l.types (take l.p l.parts) l.bounds.items }
