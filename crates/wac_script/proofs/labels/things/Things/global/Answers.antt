use Rattle.std.proofs.Common.{Some, None, Ok, Err, ap, inl, inr, refl, subst, sym, ◌∙◌}
use Rattle.wac_script.specs.labels.Things.{things_of, cores_of}
use Rattle.wac_script.proofs.ReadLemmas.{exit}
use Rattle.wac_script.proofs.labels.things.Things.global.Goals as goal

pub returns : goal.returns
returns c = (c.in-Some.val_type, c.in_ok-marks.marks, c.in-Some.ensures, c.in_ok-marks.ensures, refl)

pub returns-in_default : goal.returns-in_default
returns-in_default c = inr (λ e h. c.in_default.ensures h.0 h.2)

pub returns-in_err-marks : goal.returns-in_err-marks
returns-in_err-marks c = exit _ _ c.from_residual.result (c.in_err-marks.field-0).0 c.from_residual.ensures.1 c.in_err-marks.ensures (λ none e h. none h.1 h.3)
