use Rattle.std.specs.Prelude.{◌≡◌, ◌&&◌, not, is_some, take}
use Rattle.wac_types_shapes.specs.declared.shapes.component.ResourceId.{ResourceId}
use Rattle.wac_types_collection.specs.collection.Bound.{own_name}
use Rattle.wac_encode_scopes.specs.private.Telling.{is_one_of}
use Rattle.wac_encode_scopes.proofs.instances.other_resources.Given as goal

abbrev pub invariant-loop-i : goal.invariant-loop-i
invariant-loop-i l = (r : ResourceId) → is_one_of l.others.keys r ≡ (is_some (own_name l.fn.types l.fn.interface.uses (take l.i l.fn.interface.exports) r) && not (is_one_of l.fn.own.keys r))
