use Rattle.std.proofs.Common.{Some, None, Ok, Err, ap, inl, inr, refl, subst, sym, ◌∙◌}
use Rattle.wac_script.specs.labels.Things.{things_of, cores_of}
use Rattle.wac_script.proofs.CoreLemmas.{no-page, no-page-number}
use Rattle.wac_script.proofs.labels.things.Things.page.Goals as goal

pub returns-in_default : goal.returns-in_default
returns-in_default c = inr (no-page c.args.word.now c.in_default.ensures)

pub returns-in-None : goal.returns-in-None
returns-in-None c = inr (no-page-number c.args.word.now c.in-Some.digits.now c.in-Some.ensures c.in-None.ensures)
