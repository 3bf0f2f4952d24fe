use Rattle.std.proofs.Common.{Some, None, Ok, Err, ap, inl, inr, refl, subst, sym, ◌∙◌}
use Rattle.wac_script.specs.labels.Things.{things_of, cores_of}
use Rattle.wac_script.proofs.ReadLemmas.{exit, exit-memory}
use Rattle.wac_script.proofs.CoreLemmas.{no-core-thing, no-core-other, no-core-there}
use Rattle.wac_script.proofs.labels.things.Things.core_of.Goals as goal

pub returns-in_err-number : goal.returns-in_err-number
returns-in_err-number c = exit _ _ c.from_residual.result (c.in_err-number.field-0).0 c.from_residual.ensures.1 c.in_err-number.ensures (no-core-thing (things_of c.args.self.now) (cores_of c.args.self.now) c.args.label.now)

pub returns-in_default : goal.returns-in_default
returns-in_default c = inr (no-core-other (things_of c.args.self.now) (cores_of c.args.self.now) c.args.label.now c.in_ok-number.field-0 c.in_ok-number.ensures c.in_default.not-Core)

pub returns-in-None : goal.returns-in-None
returns-in-None c = inr (no-core-there (things_of c.args.self.now) (cores_of c.args.self.now) c.args.label.now c.in-Core.number (c.in_ok-number.ensures ∙ ap Some c.in-Core.is) (sym c.in-None.ensures))

pub returns-in_err-copy-in-Some : goal.returns-in_err-copy-in-Some
returns-in_err-copy-in-Some c = exit-memory _ _ c.from_residual-in_err-copy-in-Some.result c.from_residual-in_err-copy-in-Some.ensures.1
