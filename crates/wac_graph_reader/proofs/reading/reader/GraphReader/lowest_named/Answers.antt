use Rattle.std.proofs.Common.{◌≡◌, ◌<◌, ◌+◌, ◌-◌, rules, length, refl, arith, subst, sym, slice_index_or}
use Rattle.wac_edges.specs.Edge.{node_number}
use Rattle.wac_graph_model.specs.private.meaning.Encoding.{index_in}
use Rattle.wac_graph_reader.specs.private.writing.Naming.{AreLowest, IsNamedAt}
use Rattle.wac_graph_reader.proofs.lemmas.writing.NamingLemmas.{lowest_none, lowest_put, named_there_is}
use Rattle.wac_graph_reader.proofs.reading.reader.GraphReader.lowest_named.Goals as goal

pub loop-n-init : goal.loop-n-init
loop-n-init c = lowest_none (IsNamedAt c.args.self.now (index_in c.args.indexes.now) c.args.sort) c.args.end c.new-lowest.result c.new-lowest.ensures.empty (λ i n far is. c.requires.end n far is.0)

pub bounds-indexes-n : goal.bounds-indexes-n
bounds-indexes-n c = c.requires.room (node_number (c.loop-n.n - 1)) (named_there_is c.args.self.now c.args.sort (node_number (c.loop-n.n - 1)) (c.is_named.ensures.0 c.if-is_named.true))

pub offset_bounds-indexes-n : goal.offset_bounds-indexes-n
offset_bounds-indexes-n c =
    let low : c.loop-n.n - 1 < length c.args.indexes.now = c.requires.room (node_number (c.loop-n.n - 1)) (named_there_is c.args.self.now c.args.sort (node_number (c.loop-n.n - 1)) (c.is_named.ensures.0 c.if-is_named.true)) in
    search rules

pub loop-n-preserved-in_ok-insert : goal.loop-n-preserved-in_ok-insert
loop-n-preserved-in_ok-insert c =
    let next : c.loop-n.n ≡ (c.loop-n.n - 1) + 1 = omega (arith, c.loop-n-test.true) in
    lowest_put (IsNamedAt c.args.self.now (index_in c.args.indexes.now) c.args.sort) (c.loop-n.n - 1) (slice_index_or c.args.indexes.now (c.loop-n.n - 1) 0) c.loop-n.lowest c.insert.new.self
    (c.is_named.ensures.0 c.if-is_named.true, refl) (λ i is. sym is.1) c.in_ok-insert.ensures.updates
    (subst (λ k. AreLowest (IsNamedAt c.args.self.now (index_in c.args.indexes.now) c.args.sort) k c.loop-n.lowest) next c.loop-n.invariant)
