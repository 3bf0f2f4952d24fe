use Rattle.wac_script.specs.labels.Things.{things_of}
use Rattle.wac_script.proofs.ReadLemmas.{exit}
use Rattle.wac_script.proofs.NameLemmas.{no-case}
use Rattle.wac_script.proofs.labels.things.Things.case.Goals as goal

pub returns-in_err-value-in-Some : goal.returns-in_err-value-in-Some
returns-in_err-value-in-Some c = exit _ _ c.from_residual.result (c.in_err-value-in-Some.field-0).0 c.from_residual.ensures.1 c.in_err-value-in-Some.ensures (no-case (things_of c.args.self.now) c.args.word.now c.in-Some.name.now c.in-Some.ty.now c.in-Some.ensures)
