use Rattle.std.proofs.Common.{Some, None, Ok, Err, ap, inl, inr, refl, subst, sym, ◌∙◌}
use Rattle.wac_script.specs.labels.Things.{things_of, cores_of}
use Rattle.wac_script.proofs.ReadLemmas.{exit}
use Rattle.wac_script.proofs.CoreLemmas.{no-maximum}
use Rattle.wac_script.proofs.labels.things.Things.maximum.Goals as goal

pub returns-in_err-size-in-Some : goal.returns-in_err-size-in-Some
returns-in_err-size-in-Some c = exit _ _ c.from_residual.result (c.in_err-size-in-Some.field-0).0 c.from_residual.ensures.1 c.in_err-size-in-Some.ensures (no-maximum c.args.word.now c.in-Some.word.now c.in-Some.ensures.0 c.in-Some.ensures.1)
