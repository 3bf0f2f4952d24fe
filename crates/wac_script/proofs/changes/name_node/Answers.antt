use Rattle.std.proofs.Common.{Ok, Err, refl, subst, sym, inl, inr}
use Rattle.wac_script.specs.declared.lines.calls.Change.TheVariants as said
use Rattle.wac_script.specs.labels.Things.{things_of}
use Rattle.wac_script.proofs.RefuseLemmas.{change-words, change-memory}
use Rattle.wac_script.proofs.changes.name_node.Goals as goal

pub returns-in_err-id : goal.returns-in_err-id
returns-in_err-id c = change-words (things_of c.args.labels.now) c.args.graph.now (said.Name c.args.node c.args.name) c.from_residual.result (c.in_err-id.field-0).0 c.from_residual.ensures.1 c.in_err-id.ensures (λ none. none)

pub returns-in_err-set_node_name : goal.returns-in_err-set_node_name
returns-in_err-set_node_name c = change-memory (things_of c.args.labels.now) c.args.graph.now c.set_node_name.new.self (said.Name c.args.node c.args.name) c.from_residual-in_err-set_node_name.result c.from_residual-in_err-set_node_name.ensures.1 c.in_err-set_node_name.ensures.step

pub returns : goal.returns
returns c = (c.in_ok-id.id, c.in_ok-id.ensures, c.in_ok-set_node_name.ensures.step)
