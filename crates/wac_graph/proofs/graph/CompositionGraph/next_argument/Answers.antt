use Rattle.std.proofs.Common.{◌∙◌, arith}
use Rattle.wac_graph_reader.proofs.lemmas.writing.ImportRows.{some_entry}
use Rattle.wac_graph.proofs.ListedLemmas.{passed, taken, none_from, argument_is, no_argument}
use Rattle.wac_graph.specs.private.Inside.{fields_of}
use Rattle.wac_graph.proofs.graph.CompositionGraph.next_argument.Goals as goal

pub loop-i-preserved : goal.loop-i-preserved
loop-i-preserved c =
    let (e, at) = some_entry c.args.imports.now c.loop-i.i (omega (arith, c.loop-i-test.true, c.len-i-end.ensures)) in
    c.loop-i.invariant ∙ passed c.args.self.now c.args.instantiation c.args.imports.now c.loop-i.i e at (rw (← c.self.view_is) (no_argument (fields_of c.self.inside) c.self.invariant c.args.instantiation c.loop-i.i c.in_default.ensures.none))

pub returns-in-Some : goal.returns-in-Some
returns-in-Some c =
    let (e, at) = some_entry c.args.imports.now c.loop-i.i (omega (arith, c.loop-i-test.true, c.len-i-end.ensures)) in
    c.loop-i.invariant ∙ taken c.args.self.now c.args.instantiation c.args.imports.now c.loop-i.i e c.name_at.result.now c.in-Some.node at c.name_at.ensures (rw (← c.self.view_is) (argument_is (fields_of c.self.inside) c.self.invariant c.args.instantiation c.loop-i.i c.in-Some.node c.in-Some.ensures.some))

pub returns : goal.returns
returns c = c.loop-i.invariant ∙ none_from c.args.self.now c.args.instantiation c.args.imports.now c.loop-i.i (omega (arith, c.loop-i-test.false, c.len-i-end.ensures))
