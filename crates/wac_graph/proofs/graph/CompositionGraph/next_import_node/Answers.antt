use Rattle.std.proofs.Common.{◌∙◌, Some}
use Rattle.wac_edges.specs.Edge.{node_number}
use Rattle.wac_graph_reader.proofs.lemmas.writing.ImportRows.{node_taken, node_passed, no_nodes_left}
use Rattle.wac_graph.proofs.graph.CompositionGraph.next_import_node.Goals as goal

pub returns-in-Some-clause-first : goal.returns-in-Some-clause-first
returns-in-Some-clause-first c = c.loop-n.invariant ∙ node_taken c.args.self.now c.loop-n.n c.args.end (c.in-Some.name.now, c.in-Some.kind, Some (node_number c.loop-n.n)) c.loop-n-test.true c.in-Some.ensures

pub loop-n-preserved : goal.loop-n-preserved
loop-n-preserved c = c.loop-n.invariant ∙ node_passed c.args.self.now c.loop-n.n c.args.end c.loop-n-test.true c.in_default.ensures

pub returns-clause-first : goal.returns-clause-first
returns-clause-first c = c.loop-n.invariant ∙ no_nodes_left c.args.self.now c.loop-n.n c.args.end c.loop-n-test.false
