use Rattle.std.proofs.Common.{◌≡◌, take}
use Rattle.std.specs.List.{list_any}
use Rattle.wac_types_shapes.specs.declared.shapes.component.ResourceId.{ResourceId}
use Rattle.wac_encode_scopes.specs.private.Telling.{is_one_of}
use Rattle.wac_encode_interfaces.specs.private.Parts.{is_owned}
use Rattle.wac_encode_interfaces.proofs.instance.owned_among.Given as goal

abbrev pub invariant-loop-i : goal.invariant-loop-i
invariant-loop-i l = (r : ResourceId) → is_one_of l.owned.keys r ≡ list_any (is_owned l.fn.owners.entries l.fn.number r) (take l.i l.fn.items)
