use Rattle.std.proofs.Common.{Some, None, Ok, Err, ap, inl, inr, refl, subst, sym, ◌∙◌}
use Rattle.wac_script.specs.labels.Things.{things_of, cores_of}
use Rattle.wac_script.specs.private.Listed.{importing}
use Rattle.wac_script.proofs.ReadLemmas.{exit}
use Rattle.wac_script.proofs.CoreLemmas.{no-taken}
use Rattle.wac_script.proofs.labels.things.Things.take_import.Goals as goal

pub returns-in_err-add_import-in_default : goal.returns-in_err-add_import-in_default
returns-in_err-add_import-in_default c = exit _ _ c.from_residual.result (c.in_err-add_import-in_default.field-0).0 c.from_residual.ensures.1 c.in_err-add_import-in_default.ensures (no-taken (things_of c.args.self.now) (cores_of c.args.self.now) c.args.word.now (importing c.args.source c.args.ty.now) c.if-source.false c.in_default.not-from)
