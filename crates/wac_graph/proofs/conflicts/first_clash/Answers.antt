use Rattle.std.proofs.Common.{arith, below_more}
use Rattle.wac_edges.specs.declared.node.NodeId.{NodeId}
use Rattle.wac_graph_model.specs.nodes.Nodes.{names_of, has_position}
use Rattle.wac_graph_model.specs.private.causes.Search.{Clashes}
use Rattle.wac_graph_reader.proofs.lemmas.writing.ConflictLemmas.{none_clashes}
use Rattle.wac_graph.proofs.conflicts.first_clash.Goals as goal

pub loop-i-preserved : goal.loop-i-preserved
loop-i-preserved c = λ j node small. below_more (λ k. (x : NodeId) → Clashes (has_position c.args.satisfied.now) c.args.imports.now (names_of c.args.nodes.now.entries) k x → ⊥) c.loop-i.i (λ k less x. c.loop-i.invariant k x less) c.in_default.ensures.none j small node

pub returns-clause-none : goal.returns-clause-none
returns-clause-none c = none_clashes (has_position c.args.satisfied.now) c.args.imports.now (names_of c.args.nodes.now.entries) c.loop-i.i (omega (arith, c.loop-i-test.false, c.len-i-end.ensures)) c.loop-i.invariant
