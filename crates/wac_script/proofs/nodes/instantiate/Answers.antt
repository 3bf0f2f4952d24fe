use Rattle.std.proofs.Common.{Ok, Err, refl, subst, sym, inl, inr}
use Rattle.wac_script.specs.declared.lines.calls.Call.TheVariants as said
use Rattle.wac_script.specs.labels.Things.{things_of, cores_of}
use Rattle.wac_script.proofs.RefuseLemmas.{plain-words, plain-memory}
use Rattle.wac_script.proofs.nodes.instantiate.Goals as goal

pub returns-in_err-id : goal.returns-in_err-id
returns-in_err-id c = plain-words (things_of c.args.labels.now) (cores_of c.args.labels.now) c.args.graph.now (said.New c.args.label) c.from_residual.result (c.in_err-id.field-0).0 c.from_residual.ensures.1 c.in_err-id.ensures (λ none. none)

pub returns-in_err-node : goal.returns-in_err-node
returns-in_err-node c = plain-memory (things_of c.args.labels.now) (cores_of c.args.labels.now) c.args.graph.now c.instantiate.new.self (said.New c.args.label) c.from_residual-in_err-node.result c.from_residual-in_err-node.ensures.1 c.in_err-node.ensures.step

pub returns : goal.returns
returns c = (c.in_ok-id.id, c.in_ok-id.ensures, c.in_ok-node.ensures.step)
