use Rattle.std.proofs.Common.{Some, None, Ok, Err, ap, inl, inr, refl, subst, sym, ◌∙◌}
use Rattle.wac_script.specs.labels.Things.{things_of, cores_of}
use Rattle.wac_script.proofs.ReadLemmas.{exit}
use Rattle.wac_script.proofs.labels.things.Things.memory.Goals as goal

pub returns : goal.returns
returns c = (c.in_ok-initial.initial, c.in_ok-maximum.maximum, c.in_ok-marks.marks, c.in_ok-initial.ensures, c.in_ok-maximum.ensures, c.in_ok-marks.ensures, refl)

pub returns-in_err-initial : goal.returns-in_err-initial
returns-in_err-initial c = exit _ _ c.from_residual.result (c.in_err-initial.field-0).0 c.from_residual.ensures.1 c.in_err-initial.ensures (λ none e h. none h.0 h.3)

pub returns-in_err-maximum : goal.returns-in_err-maximum
returns-in_err-maximum c = exit _ _ c.from_residual-in_err-maximum.result (c.in_err-maximum.field-0).0 c.from_residual-in_err-maximum.ensures.1 c.in_err-maximum.ensures (λ none e h. none h.1 h.4)

pub returns-in_err-marks : goal.returns-in_err-marks
returns-in_err-marks c = exit _ _ c.from_residual-in_err-marks.result (c.in_err-marks.field-0).0 c.from_residual-in_err-marks.ensures.1 c.in_err-marks.ensures (λ none e h. none h.2 h.5)
