use Rattle.std.proofs.Common.{Err, ap, inl, inr, refl, subst, sym}
use Rattle.wac_types_shapes.specs.shapes.Named.{named_pairs, NoNameTwice}
use Rattle.wac_script.specs.lines.Words.{spelled}
use Rattle.wac_script.specs.labels.Things.{things_of}
use Rattle.wac_script.specs.labels.Values.{AreFields}
use Rattle.wac_script.specs.labels.Shapes.{IsFunc}
use Rattle.wac_script.proofs.ReadLemmas.{exit, exit-shape}
use Rattle.wac_script.proofs.labels.things.Things.func.Goals as goal

pub returns-in_err-returned : goal.returns-in_err-returned
returns-in_err-returned c = exit _ _ c.from_residual.result (c.in_err-returned.field-0).0 c.from_residual.ensures.1 c.in_err-returned.ensures (λ none. inl (λ f h. none f.result h.returned))

pub returns-in_err-params : goal.returns-in_err-params
returns-in_err-params c = exit _ _ c.from_residual-in_err-params.result (c.in_err-params.field-0).0 c.from_residual-in_err-params.ensures.1 c.in_err-params.ensures (λ none. inl (λ f h. none f.params h.params))

pub returns-in_err-func : goal.returns-in_err-func
returns-in_err-func c = exit-shape _ _ c.from_residual-in_err-func.result (c.in_err-func.field-0).0 c.from_residual-in_err-func.ensures.1 (λ twice. inr (record { params = named_pairs c.in_ok-params.params.items; result = c.in_ok-returned.returned; is_async = c.args.is_async }, record { params = c.in_ok-params.ensures; returned = c.in_ok-returned.ensures; is_async = refl }, subst (λ l. NoNameTwice (named_pairs l) → ⊥) c.deref.ensures.value (c.in_err-func.ensures.name_twice (ap Err twice))))
