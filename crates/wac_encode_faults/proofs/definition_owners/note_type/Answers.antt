use Rattle.std.proofs.Common.{◌≡◌, true, sym, ◌∙◌, subst}
use Rattle.wac_types_collection.specs.collection.Collection.{holds_type}
use Rattle.wac_encode_faults.proofs.OwnedSteps.{definition_is}
use Rattle.wac_encode_faults.proofs.definition_owners.note_type.Goals as goal

pub note_definition-requires-clause-held : goal.note_definition-requires-clause-held
note_definition-requires-clause-held c = subst (λ t. holds_type c.args.types.now t ≡ true) (definition_is c.args.ty c.in-Some.id (sym c.definition_in.ensures ∙ c.in-Some.is)) c.requires.held
