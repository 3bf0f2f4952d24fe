use Rattle.std.proofs.Common.{Ok, Err, refl, subst, sym, inl, inr}
use Rattle.wac_script.specs.declared.lines.calls.Change.TheVariants as said
use Rattle.wac_script.specs.labels.Things.{things_of}
use Rattle.wac_script.proofs.RefuseLemmas.{change-words}
use Rattle.wac_script.proofs.changes.set.Goals as goal

pub returns-in_err-instance : goal.returns-in_err-instance
returns-in_err-instance c = change-words (things_of c.args.labels.now) c.args.graph.now (said.Set c.args.node c.args.name c.args.argument) c.from_residual.result (c.in_err-instance.field-0).0 c.from_residual.ensures.1 c.in_err-instance.ensures (λ none n a h k. none n h)

pub returns-in_err-given : goal.returns-in_err-given
returns-in_err-given c = change-words (things_of c.args.labels.now) c.args.graph.now (said.Set c.args.node c.args.name c.args.argument) c.from_residual-in_err-given.result (c.in_err-given.field-0).0 c.from_residual-in_err-given.ensures.1 c.in_err-given.ensures (λ none n a h k. none a k)

pub returns-in-Ok : goal.returns-in-Ok
returns-in-Ok c = (c.in_ok-instance.instance, c.in_ok-given.given, c.in_ok-instance.ensures, c.in_ok-given.ensures, c.in-Ok.ensures.step)

pub returns-in-Err : goal.returns-in-Err
returns-in-Err c = (c.in_ok-instance.instance, c.in_ok-given.given, c.in_ok-instance.ensures, c.in_ok-given.ensures, c.in-Err.ensures.step)
