use Rattle.std.proofs.Common.{◌≡◌, true, sym, ◌∙◌, subst}
use Rattle.std.specs.Prelude.{OnOk}
use Rattle.wac_types_collection.specs.collection.Collection.{holds_type}
use Rattle.wac_encode_faults.specs.private.DefinitionOwners.{IsOwnerOfType}
use Rattle.wac_encode_faults.specs.private.Owners.{AddsSteps}
use Rattle.wac_encode_faults.proofs.OwnedSteps.{definition_is}
use Rattle.wac_encode_faults.proofs.cycle.add_steps_of_part.Goals as goal

pub add_steps_of_definition-requires-clause-held : goal.add_steps_of_definition-requires-clause-held
add_steps_of_definition-requires-clause-held c = subst (λ t. holds_type c.args.types.now t ≡ true) (definition_is c.args.ty c.in-Some.id (sym c.definition_in.ensures ∙ c.in-Some.is)) c.requires.held

pub returns-in-Some : goal.returns-in-Some
returns-in-Some c =
    subst (λ t. OnOk c.add_steps_of_definition.result (AddsSteps c.args.from (IsOwnerOfType c.args.types.now c.args.owners.now.entries t) c.args.targets.now c.add_steps_of_definition.new.targets)) (sym (definition_is c.args.ty c.in-Some.id (sym c.definition_in.ensures ∙ c.in-Some.is))) c.add_steps_of_definition.ensures
