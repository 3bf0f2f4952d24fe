use Rattle.std.proofs.Common.{◌≡◌, ◌++◌, true, false, refl, ap, sym, ◌∙◌}
use Rattle.std.proofs.lemmas.Result.{on_ok_weaker}
use Rattle.wac_encode_interfaces.specs.private.InnerTypes.{inner_types, enter_all}
use Rattle.wac_encode_interfaces.proofs.inside.enter.Goals as goal

pub returns-then-contains-clause-known : goal.returns-then-contains-clause-known
returns-then-contains-clause-known c = λ e. refl

pub returns-then-contains-clause-new : goal.returns-then-contains-clause-new
returns-then-contains-clause-new c = λ e. let wrong : true ≡ false = sym c.if-contains.true ∙ c.contains.ensures ∙ e in cc

pub returns-clause-known : goal.returns-clause-known
returns-clause-known c = on_ok_weaker c.push_inner.result (λ pushed e. let wrong : false ≡ true = sym c.if-contains.false ∙ c.contains.ensures ∙ e in cc) c.push_inner.ensures

pub returns-clause-new : goal.returns-clause-new
returns-clause-new c = on_ok_weaker c.push_inner.result (λ pushed e. pushed ∙ ap (λ l. l ++ enter_all (inner_types c.args.types.now c.args.ty)) c.in_ok-push.ensures.items) c.push_inner.ensures
