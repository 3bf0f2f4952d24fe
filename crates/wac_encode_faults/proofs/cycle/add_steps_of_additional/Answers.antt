use Rattle.std.proofs.Common.{[], ap, sym, ◌∙◌}
use Rattle.std.proofs.lemmas.Result.{on_ok_weaker}
use Rattle.wac_types_shapes.specs.primitives.Name.{option_case}
use Rattle.wac_types_collection.specs.wide.Wide.{used_interfaces, with_each}
use Rattle.wac_encode_faults.specs.private.Owners.{AdditionalUses, IsFreeInAddition}
use Rattle.wac_encode_faults.proofs.ItemSteps.{steps_target, steps_nothing, uses_itself, free_itself}
use Rattle.wac_encode_faults.proofs.cycle.add_steps_of_additional.Goals as goal

pub returns-in_default : goal.returns-in_default
returns-in_default c = steps_nothing c.args.types.now c.args.item c.args.suppliers.now.entries c.args.owners.now.entries c.args.from c.args.targets.now (λ i is. c.in_default.not-Instance i is)

pub returns : goal.returns
returns c =
    on_ok_weaker c.add_steps_of_free.result
    (λ second. steps_target (AdditionalUses c.args.types.now c.args.item) (IsFreeInAddition c.args.types.now c.args.item) c.args.suppliers.now.entries c.args.owners.now.entries c.args.from c.add_used.new.used.keys c.new-free.result.keys c.add_free_in_types.new.found.keys
    c.args.targets.now c.add_steps_of_uses.new.targets c.add_steps_of_free.new.targets
    (uses_itself c.args.types.now c.args.item c.in-Instance.id c.new-used.result.keys c.add_used.new.used.keys c.in-Instance.is c.new-used.ensures.empty
    (c.in_ok-add_used.ensures ∙ ap (λ o. with_each c.new-used.result.keys (used_interfaces (option_case o [] (λ x. x.uses)))) (sym c.index.ensures)))
    c.new-free.ensures.empty (free_itself c.args.types.now c.args.item c.in-Instance.id c.new-free.result.keys c.add_free_in_types.new.found.keys c.in-Instance.is c.in_ok-add_free_in_types.ensures)
    c.in_ok-add_steps_of_uses.ensures second)
    c.add_steps_of_free.ensures
