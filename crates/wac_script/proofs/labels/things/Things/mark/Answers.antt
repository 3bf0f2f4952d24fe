use Rattle.std.proofs.Common.{Some, None, Ok, Err, ap, inl, inr, refl, subst, sym, ◌∙◌}
use Rattle.wac_script.specs.labels.Things.{things_of, cores_of}
use Rattle.wac_script.proofs.CoreLemmas.{marked}
use Rattle.wac_script.proofs.labels.things.Things.mark.Goals as goal

pub returns-in_default : goal.returns-in_default
returns-in_default c = marked c.args.word.now c.args.marks c.page.result c.in_default.not-text c.in_default.not-shared c.in_default.not-mut c.page.ensures
