use Rattle.std.proofs.Common.{◌≡◌, ◌∷◌, ◌++◌, [], true, false, refl, ap, sym, ◌∙◌, reverse, Option}
use Rattle.std.proofs.lemmas.Result.{on_ok_weaker}
use Rattle.wac_types_shapes.specs.primitives.Name.{option_case}
use Rattle.wac_types_shapes.specs.declared.shapes.component.Interface.{Interface}
use Rattle.wac_types_collection.specs.wide.Wide.{used_interfaces}
use Rattle.wac_encode_faults.specs.declared.order.Step.TheVariants as step
use Rattle.wac_encode_faults.specs.private.Order.{steps_into}
use Rattle.wac_encode_faults.proofs.uses.enter.Goals as goal

pub returns-then-contains-clause-known : goal.returns-then-contains-clause-known
returns-then-contains-clause-known c = λ e. refl

pub returns-then-contains-clause-new : goal.returns-then-contains-clause-new
returns-then-contains-clause-new c = λ e. let wrong : true ≡ false = sym (sym c.contains.ensures ∙ c.if-contains.true) ∙ e in cc

pub returns-clause-known : goal.returns-clause-known
returns-clause-known c = on_ok_weaker c.push_uses.result (λ pushed e. let wrong : true ≡ false = sym e ∙ sym c.contains.ensures ∙ c.if-contains.false in cc) c.push_uses.ensures

pub returns-clause-new : goal.returns-clause-new
returns-clause-new c =
    let uses = ap (λ (o : Option Interface). option_case o [] (λ x. x.uses)) c.index.ensures in
    on_ok_weaker c.push_uses.result (λ pushed e.
    pushed ∙ ap (λ l. l ++ reverse (steps_into (used_interfaces (c.index.result.now).uses))) c.in_ok-push.ensures.items
    ∙ ap (λ us. (c.args.pending.now.items ++ step.Leave c.args.id ∷ []) ++ reverse (steps_into (used_interfaces us))) (sym uses)) c.push_uses.ensures
