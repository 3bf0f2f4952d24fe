use Rattle.std.proofs.Common.{◌≡◌, true, sym, subst}
use Rattle.wac_types_collection.specs.collection.Collection.{holds_type}
use Rattle.wac_encode_faults.proofs.OwnedSteps.{parts_held}
use Rattle.wac_encode_faults.proofs.definition_owners.note_item.Goals as goal

pub add_parts-requires : goal.add_parts-requires
add_parts-requires c = subst (λ t. holds_type c.args.types.now t ≡ true) (sym c.ty-ty.ensures) c.requires.held

pub note_types-requires-clause-held : goal.note_types-requires-clause-held
note_types-requires-clause-held c =
    parts_held c.args.types.now c.ty-ty.result c.new-found.result.keys c.add_parts.new.found.keys c.as_slice.result.now c.new-found.ensures.empty c.in_ok-add_parts.ensures c.as_slice.ensures.keys c.law.ensures
    (subst (λ t. holds_type c.args.types.now t ≡ true) (sym c.ty-ty.ensures) c.requires.held)
