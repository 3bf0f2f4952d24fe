use Rattle.std.proofs.Common.{Some, None, Ok, Err, ap, inl, inr, refl, subst, sym, ◌∙◌}
use Rattle.wac_script.specs.labels.Things.{things_of, cores_of}
use Rattle.wac_script.proofs.ReadLemmas.{exit, exit-memory}
use Rattle.wac_script.proofs.labels.things.Things.core_func.Goals as goal

pub returns-in_err-params : goal.returns-in_err-params
returns-in_err-params c = exit _ _ c.from_residual.result (c.in_err-params.field-0).0 c.from_residual.ensures.1 c.in_err-params.ensures (λ none f h. none f.params h.0)

pub returns-in_err-results : goal.returns-in_err-results
returns-in_err-results c = exit _ _ c.from_residual-in_err-results.result (c.in_err-results.field-0).0 c.from_residual-in_err-results.ensures.1 c.in_err-results.ensures (λ none f h. none f.results h.1)

pub returns-in_err-func : goal.returns-in_err-func
returns-in_err-func c = exit-memory _ _ c.from_residual-in_err-func.result c.from_residual-in_err-func.ensures.1
