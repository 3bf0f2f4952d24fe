use Rattle.std.proofs.Common.{Ok, Err, refl, subst, sym, inl, inr}
use Rattle.wac_script.specs.declared.lines.calls.Change.TheVariants as said
use Rattle.wac_script.specs.labels.Things.{things_of}
use Rattle.wac_script.proofs.RefuseLemmas.{change-words}
use Rattle.wac_script.proofs.changes.export.Goals as goal

pub returns-in_err-id : goal.returns-in_err-id
returns-in_err-id c = change-words (things_of c.args.labels.now) c.args.graph.now (said.Export c.args.node c.args.name) c.from_residual.result (c.in_err-id.field-0).0 c.from_residual.ensures.1 c.in_err-id.ensures (λ none. none)

pub returns-in-Ok : goal.returns-in-Ok
returns-in-Ok c = (c.in_ok-id.id, c.in_ok-id.ensures, c.in-Ok.ensures.step)

pub returns-in-Err : goal.returns-in-Err
returns-in-Err c = (c.in_ok-id.id, c.in_ok-id.ensures, c.in-Err.ensures.step)
