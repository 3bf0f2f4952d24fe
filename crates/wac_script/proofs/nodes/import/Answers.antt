use Rattle.std.proofs.Common.{Ok, Err, refl, subst, sym, inl, inr}
use Rattle.wac_script.specs.declared.lines.calls.Call.TheVariants as said
use Rattle.wac_script.specs.labels.Things.{things_of, cores_of}
use Rattle.wac_script.proofs.RefuseLemmas.{plain-words}
use Rattle.wac_script.proofs.nodes.import.Goals as goal

pub returns-in_err-kind : goal.returns-in_err-kind
returns-in_err-kind c = plain-words (things_of c.args.labels.now) (cores_of c.args.labels.now) c.args.graph.now (said.Import c.args.name c.args.item) c.from_residual.result (c.in_err-kind.field-0).0 c.from_residual.ensures.1 c.in_err-kind.ensures.said (λ none. none)

pub returns-in-Ok : goal.returns-in-Ok
returns-in-Ok c = (c.in_ok-kind.kind, (c.in_ok-kind.ensures.said, c.in_ok-kind.ensures.there), c.in-Ok.ensures.step)

pub returns-in-Err : goal.returns-in-Err
returns-in-Err c = (c.in_ok-kind.kind, (c.in_ok-kind.ensures.said, c.in_ok-kind.ensures.there), c.in-Err.ensures.step)
