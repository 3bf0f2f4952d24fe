use Rattle.std.proofs.Common.{rules, ◌≡◌, ◌∙◌, ap, sym, subst, map}
use Rattle.std.specs.Cmp.{nat_cmp_total}
use Rattle.std.specs.Map.Iter.{deref_pair}
use Rattle.std.proofs.lemmas.Map.Iter.{iter_end, btree_map_turn}
use Rattle.wac_graph_model.specs.private.meaning.Encoding.{index_in}
use Rattle.wac_binary.specs.Views.{names_of}
use Rattle.wac_graph_reader.proofs.lemmas.writing.NamingLemmas.{with_names, named_by, named_found, names_more}
use Rattle.wac_graph_reader.specs.private.writing.Sizes.{AreShortNames}
use Rattle.wac_graph_reader.proofs.lemmas.writing.NameSizes.{short_push}
use Rattle.wac_graph_reader.proofs.reading.reader.GraphReader.sort_names.Goals as goal

pub name_of-requires : goal.name_of-requires
name_of-requires c =
    let gives = c.into_iter-index-iterator.ensures.into_iter_gives in
    let turn = btree_map_turn deref_pair c.loop-index.yielded c.into_iter-index-iterator.result c.loop-index.index-iterator c.next.new.self c.next.result (c.in-Some.index, c.in-Some.n) c.loop-index.yielded_by c.in-Some.is c.next.ensures.steps
    nat_cmp_total c.in_ok-lowest.lowest gives.0 gives.5 in
    named_found c.args.self.now (index_in c.args.indexes.now) c.args.sort c.in_ok-lowest.lowest c.in-Some.index.now c.in-Some.n.now c.in_ok-lowest.ensures turn.1

pub loop-index-preserved : goal.loop-index-preserved
loop-index-preserved c = (
  names_more c.args.self.now c.args.sort c.loop-index.names.items c.push.new.self.items c.loop-index.yielded c.in-Some.index c.in-Some.n c.name_of.result c.in_ok-push.ensures.items c.name_of.ensures c.loop-index.invariant.0,
  subst (λ items. AreShortNames (names_of items)) (sym c.in_ok-push.ensures.items) (short_push c.loop-index.names.items c.args.sort c.in-Some.index.now c.name_of.result c.loop-index.invariant.1 c.index_law.ensures),
)

pub returns-clause-short : goal.returns-clause-short
returns-clause-short c = c.loop-index.invariant.1

pub returns-clause-names : goal.returns-clause-names
returns-clause-names c =
    let whole : map deref_pair c.loop-index.yielded ≡ c.in_ok-lowest.lowest.entries = search (rules, iter_end) in
    named_by c.args.self.now (index_in c.args.indexes.now) c.args.sort c.in_ok-lowest.lowest c.into_iter-index-iterator.ensures.into_iter_gives.5 c.in_ok-lowest.ensures (names_of c.loop-index.names.items)
    (c.loop-index.invariant.0 ∙ ap (λ es. with_names c.args.self.now c.args.sort es) whole)
