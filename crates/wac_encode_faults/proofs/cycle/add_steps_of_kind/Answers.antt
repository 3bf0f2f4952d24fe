use Rattle.std.proofs.lemmas.Result.{on_ok_weaker}
use Rattle.wac_encode_faults.specs.private.DefinitionOwners.{IsOwnerOfType}
use Rattle.wac_encode_faults.proofs.Steps.{steps_as}
use Rattle.wac_encode_faults.proofs.OwnedSteps.{OneHas, parts_held, parts_owned}
use Rattle.wac_encode_faults.proofs.cycle.add_steps_of_kind.Goals as goal

pub add_steps_of_parts-requires-clause-held : goal.add_steps_of_parts-requires-clause-held
add_steps_of_parts-requires-clause-held c =
    parts_held c.args.types.now c.args.ty c.new-found.result.keys c.add_parts.new.found.keys c.as_slice.result.now c.new-found.ensures.empty c.in_ok-add_parts.ensures c.as_slice.ensures.keys c.law.ensures c.requires.held

pub returns : goal.returns
returns c =
    on_ok_weaker c.add_steps_of_parts.result
    (λ steps. steps_as c.args.from (OneHas (IsOwnerOfType c.args.types.now c.args.owners.now.entries) c.args.from c.as_slice.result.now) (IsOwnerOfType c.args.types.now c.args.owners.now.entries c.args.ty) c.args.targets.now c.add_steps_of_parts.new.targets
    (parts_owned c.args.types.now c.args.ty c.new-found.result.keys c.add_parts.new.found.keys c.as_slice.result.now c.new-found.ensures.empty c.in_ok-add_parts.ensures c.as_slice.ensures.keys c.args.owners.now.entries c.in-Func.field-0 c.in-Func.is) steps)
    c.add_steps_of_parts.ensures
