use Rattle.std.proofs.Common.{◌≡◌, take}
use Rattle.wac_types_shapes.specs.declared.shapes.component.ResourceId.{ResourceId}
use Rattle.wac_merge_classes.specs.entries.Bindings.{first_from}
use Rattle.wac_merge_classes.specs.entries.Places.{find_resource}
use Rattle.wac_merge_classes.proofs.entries.bindings.first_classes.Given as goal

abbrev pub invariant-loop-k : goal.invariant-loop-k
invariant-loop-k l = (r : ResourceId) → find_resource l.firsts.entries r ≡ first_from 0 (take l.k l.classes) r
