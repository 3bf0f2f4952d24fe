use Rattle.std.proofs.Common.{Ok, Err, refl, subst, sym, inl, inr}
use Rattle.wac_script.specs.declared.lines.calls.Call.TheVariants as said
use Rattle.wac_script.specs.labels.Things.{things_of, cores_of}
use Rattle.wac_script.proofs.RefuseLemmas.{plain-words}
use Rattle.wac_script.proofs.nodes.alias.Goals as goal

pub returns-in_err-instance : goal.returns-in_err-instance
returns-in_err-instance c = plain-words (things_of c.args.labels.now) (cores_of c.args.labels.now) c.args.graph.now (said.Alias c.args.node c.args.export) c.from_residual.result (c.in_err-instance.field-0).0 c.from_residual.ensures.1 c.in_err-instance.ensures (λ none. none)

pub returns-in-Ok : goal.returns-in-Ok
returns-in-Ok c = (c.in_ok-instance.instance, c.in_ok-instance.ensures, c.in-Ok.ensures.step)

pub returns-in-Err : goal.returns-in-Err
returns-in-Err c = (c.in_ok-instance.instance, c.in_ok-instance.ensures, c.in-Err.ensures.step)
