use Rattle.std.proofs.Common.{Some, None, Ok, Err, ap, inl, inr, refl, subst, sym, ◌∙◌}
use Rattle.wac_script.specs.labels.Things.{things_of, cores_of}
use Rattle.wac_script.proofs.ReadLemmas.{exit-memory}
use Rattle.wac_script.proofs.CoreLemmas.{no-types}
use Rattle.wac_script.proofs.labels.things.Things.core_types.Goals as goal

pub returns-in-None : goal.returns-in-None
returns-in-None c = inr (no-types c.args.words.now c.loop-word.word-index _ c.loop-word-test.true c.in-None.ensures)

pub returns-in_err-push-in-Some : goal.returns-in_err-push-in-Some
returns-in_err-push-in-Some c = exit-memory _ _ c.from_residual.result c.from_residual.ensures.1
