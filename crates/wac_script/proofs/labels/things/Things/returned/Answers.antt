use Rattle.wac_script.specs.labels.Things.{things_of}
use Rattle.wac_script.proofs.ReadLemmas.{exit}
use Rattle.wac_script.proofs.NameLemmas.{no-returned}
use Rattle.wac_script.proofs.labels.things.Things.returned.Goals as goal

pub returns-in_err-value-in-len1 : goal.returns-in_err-value-in-len1
returns-in_err-value-in-len1 c = exit _ _ c.from_residual.result (c.in_err-value-in-len1.field-0).0 c.from_residual.ensures.1 c.in_err-value-in-len1.ensures (no-returned (things_of c.args.self.now) c.args.words.now _ c.in-len1.len_at_least c.in-len1.len_below)
