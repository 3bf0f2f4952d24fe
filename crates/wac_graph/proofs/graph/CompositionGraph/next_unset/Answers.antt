use Rattle.std.proofs.Common.{◌∙◌, None}
use Rattle.wac_graph_reader.proofs.lemmas.writing.ImportRows.{taken, passed, none_past_end}
use Rattle.wac_graph.proofs.graph.CompositionGraph.next_unset.Goals as goal

pub returns-in-Some : goal.returns-in-Some
returns-in-Some c = c.loop-n.invariant ∙ taken c.args.self.now c.loop-n.n c.loop-n.from c.in-Some.behind c.args.end (c.in-Some.name.now, c.in-Some.kind, None) c.loop-n-test.true c.in-Some.ensures

pub loop-n-preserved : goal.loop-n-preserved
loop-n-preserved c = c.loop-n.invariant ∙ passed c.args.self.now c.loop-n.n c.loop-n.from c.args.end c.loop-n-test.true c.in_default.ensures

pub returns : goal.returns
returns c = c.loop-n.invariant ∙ none_past_end c.args.self.now c.loop-n.n c.loop-n.from c.args.end c.loop-n-test.false
