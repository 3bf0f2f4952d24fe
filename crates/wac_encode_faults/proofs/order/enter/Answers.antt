use Rattle.std.proofs.Common.{◌≡◌, ◌∷◌, ◌++◌, [], true, false, not, refl, ap, sym, ◌∙◌, Option}
use Rattle.std.proofs.lemmas.Result.{on_ok_weaker}
use Rattle.wac_types_shapes.specs.primitives.Name.{option_case}
use Rattle.wac_types_shapes.specs.declared.shapes.component.Interface.{Interface}
use Rattle.wac_encode_faults.specs.declared.order.Step.TheVariants as step
use Rattle.wac_encode_faults.specs.private.Order.{interfaces_of, steps_into}
use Rattle.wac_types_collection.proofs.lemmas.wide.Once.{inserted}
use Rattle.wac_encode_faults.proofs.order.enter.Goals as goal

pub returns-then-not-branch-clause-seen : goal.returns-then-not-branch-clause-seen
returns-then-not-branch-clause-seen c = inserted c.args.seen.now.keys c.insert.new.self.keys c.args.id c.in_ok-insert.ensures.keys

pub returns-then-not-branch-clause-known : goal.returns-then-not-branch-clause-known
returns-then-not-branch-clause-known c = λ e. refl

pub returns-then-not-branch-clause-new : goal.returns-then-not-branch-clause-new
returns-then-not-branch-clause-new c = λ e. let wrong : false ≡ true = sym c.if-not-branch.true ∙ c.in_ok-insert.ensures.added ∙ ap not e in cc

pub returns-clause-seen : goal.returns-clause-seen
returns-clause-seen c = on_ok_weaker c.push_items.result (λ e. inserted c.args.seen.now.keys c.insert.new.self.keys c.args.id c.in_ok-insert.ensures.keys) c.push_items.ensures

pub returns-clause-known : goal.returns-clause-known
returns-clause-known c = on_ok_weaker c.push_items.result (λ pushed e. let wrong : true ≡ false = sym c.if-not-branch.false ∙ c.in_ok-insert.ensures.added ∙ ap not e in cc) c.push_items.ensures

pub returns-clause-new : goal.returns-clause-new
returns-clause-new c =
    let exports = ap (λ (o : Option Interface). option_case o [] (λ x. x.exports)) c.index.ensures in
    on_ok_weaker c.push_items.result (λ pushed e.
    pushed ∙ ap (λ l. l ++ steps_into (interfaces_of (c.index.result.now).exports)) c.in_ok-push.ensures.items ∙ ap (λ es. (c.args.pending.now.items ++ step.Leave c.args.id ∷ []) ++ steps_into (interfaces_of es)) (sym exports)) c.push_items.ensures
