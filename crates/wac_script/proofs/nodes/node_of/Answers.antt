use Rattle.std.proofs.Common.{Ok, Err, refl, subst, sym, inl, inr}
use Rattle.wac_script.specs.labels.Things.{things_of}
use Rattle.wac_script.proofs.RunLemmas.{not-there}
use Rattle.wac_script.proofs.ReadLemmas.{exit}
use Rattle.wac_script.proofs.RefuseLemmas.{node-missing}
use Rattle.wac_script.proofs.nodes.node_of.Goals as goal

pub returns-in_err-id : goal.returns-in_err-id
returns-in_err-id c = exit _ _ c.from_residual.result (c.in_err-id.field-0).0 c.from_residual.ensures.1 c.in_err-id.ensures (λ none n h. none n h.0)

pub returns-then-not-has_node : goal.returns-then-not-has_node
returns-then-not-has_node c = inr (node-missing (things_of c.args.labels.now) c.args.label.now c.args.graph.now c.in_ok-id.id c.in_ok-id.ensures (not-there _ c.has_node.result c.has_node.ensures c.if-not-has_node.true))

pub returns : goal.returns
returns c = (c.in_ok-id.ensures, c.has_node.ensures.0 c.if-not-has_node.false)
