use Rattle.std.proofs.Common.{sym, subst, arith}
use Rattle.wac_binary.specs.Views.{arguments_of}
use Rattle.wac_graph_model.specs.private.meaning.Encoding.{index_in}
use Rattle.wac_graph_model.specs.private.meaning.Writing.{IsArgumentItem}
use Rattle.wac_graph_reader.proofs.lemmas.writing.WriteArgumentsLemmas.{pushed, at_import, all_arguments, asked_now, source_set, source_unset}
use Rattle.wac_graph_encode.specs.private.encoding.Costs.{AreShortArguments}
use Rattle.wac_graph_encode.proofs.lemmas.encoding.RootCosts.{short-push}
use Rattle.wac_graph_encode.proofs.encoding.writer.arguments.Goals as goal

pub loop-i-init : goal.loop-i-init
loop-i-init c = (rw c.new-arguments.ensures.items tt, rw c.new-arguments.ensures.items tt)

pub index-requires : goal.index-requires
index-requires c = omega (arith, c.loop-i-test.true, c.in_ok-sources.ensures.counted, c.in_ok-sources.sources.ok)

pub argument-sort-requires-clause-asked : goal.argument-sort-requires-clause-asked
argument-sort-requires-clause-asked c = asked_now c.args.reader.now c.args.n.0 c.loop-i.i c.imports_at-names.result.now c.name_at-name.result.now c.requires.instantiation c.imports_at-names.ensures c.name_at-name.ensures

pub argument-sort-requires-clause-set : goal.argument-sort-requires-clause-set
argument-sort-requires-clause-set c = source_set c.args.reader.now c.args.n.0 c.loop-i.i c.len-count.result c.in_ok-sources.sources.items c.index.result.now c.in_ok-sources.ensures.counted c.loop-i-test.true c.index.ensures c.in_ok-sources.ensures.set

pub argument-sort-requires-clause-unset : goal.argument-sort-requires-clause-unset
argument-sort-requires-clause-unset c = source_unset c.args.reader.now c.args.n.0 c.loop-i.i c.len-count.result c.in_ok-sources.sources.items c.index.result.now c.in_ok-sources.ensures.counted c.loop-i-test.true c.index.ensures c.in_ok-sources.ensures.unset

pub loop-i-preserved : goal.loop-i-preserved
loop-i-preserved c = (
  pushed c.args.reader.now c.args.imports.now.places.items (index_in c.args.indexes.now) c.args.n.0 c.loop-i.i c.imports_at-names.result.now c.loop-i.arguments.items c.push.new.self.items c.name_at-name.result c.argument-sort.result.0 c.argument-sort.result.1
      c.name_at-name.ensures c.in_ok-push.ensures.items
      (at_import c.args.reader.now c.args.n.0 c.loop-i.i c.imports_at-names.result.now (λ e. IsArgumentItem c.args.reader.now c.args.imports.now.places.items (index_in c.args.indexes.now) c.args.n c.loop-i.i e (c.name_at-name.result.now, c.argument-sort.result.0, c.argument-sort.result.1)) c.requires.instantiation c.imports_at-names.ensures c.argument-sort.ensures)
      c.loop-i.invariant.0,
  subst (λ items. AreShortArguments (arguments_of items)) (sym c.in_ok-push.ensures.items) (short-push c.loop-i.arguments.items c.name_at-name.result c.argument-sort.result.0 c.argument-sort.result.1 c.loop-i.invariant.1 c.index_law.ensures),
)

pub returns-clause-short : goal.returns-clause-short
returns-clause-short c = c.loop-i.invariant.1

pub returns-clause-items : goal.returns-clause-items
returns-clause-items c = all_arguments c.args.reader.now c.args.imports.now.places.items (index_in c.args.indexes.now) c.args.n.0 c.loop-i.i c.imports_at-names.result.now c.loop-i.arguments.items (omega (arith, c.loop-i-test.false, c.loop-i.auto.i-end, c.len-count.ensures)) c.imports_at-names.ensures c.loop-i.invariant.0
