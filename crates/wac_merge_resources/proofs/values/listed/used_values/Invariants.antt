use Rattle.std.proofs.Common.{◌≡◌, take}
use Rattle.wac_types_shapes.specs.declared.shapes.component.DefinedTypeId.{DefinedTypeId}
use Rattle.wac_merge_classes.specs.terms.Values.{uses_value}
use Rattle.wac_merge_resources.specs.private.values.Listings.{has_value}
use Rattle.wac_merge_resources.proofs.values.listed.used_values.Given as goal

abbrev pub invariant-loop-i : goal.invariant-loop-i
invariant-loop-i l = (d : DefinedTypeId) → has_value l.values.keys d ≡ uses_value l.types (take l.i l.uses) d
