use Rattle.std.proofs.Common.{ℕ, ◌<◌, arith, sym, subst, ◌∙◌}
use Rattle.slab.specs.Slab.{get}
use Rattle.wac_edges.proofs.AddingLemmas.{edge_in, at_place, contains_place, added_more, all_added, not_yet}
use Rattle.wac_edges.proofs.records.put_all.Goals as goal

pub put-requires-clause-source : goal.put-requires-clause-source
put-requires-clause-source c =
    let x = edge_in c.args.edges.now c.loop-edge.edge-index in
    subst (λ (n : ℕ). x.source.0 < n) (sym c.loop-edge.invariant.2) (c.requires.there x (contains_place c.args.edges.now c.loop-edge.edge-index c.loop-edge-test.true)).0

pub put-requires-clause-target : goal.put-requires-clause-target
put-requires-clause-target c =
    let x = edge_in c.args.edges.now c.loop-edge.edge-index in
    subst (λ (n : ℕ). x.target.0 < n) (sym c.loop-edge.invariant.2) (c.requires.there x (contains_place c.args.edges.now c.loop-edge.edge-index c.loop-edge-test.true)).1

pub put-requires-clause-absent : goal.put-requires-clause-absent
put-requires-clause-absent c =
    λ k at. not_yet (get c.args.records.now) (get c.loop-edge.records) c.args.edges.now c.loop-edge.edge-index (edge_in c.args.edges.now c.loop-edge.edge-index)
    (at_place c.args.edges.now c.loop-edge.edge-index c.loop-edge-test.true) c.requires.once c.requires.absent c.loop-edge.invariant.1 (k, at)

pub loop-edge-preserved : goal.loop-edge-preserved
loop-edge-preserved c = (
  c.put.ensures.listed,
  added_more (get c.args.records.now) (get c.loop-edge.records) (get c.put.new.records) c.args.edges.now c.loop-edge.edge-index (edge_in c.args.edges.now c.loop-edge.edge-index)
      (at_place c.args.edges.now c.loop-edge.edge-index c.loop-edge-test.true) c.put.ensures.edges c.loop-edge.invariant.1,
  c.put.auto.firsts ∙ c.loop-edge.invariant.2,
  let more = c.put.ensures.count in let so = c.loop-edge.invariant.3 in omega (arith, more, so),
  c.put.ensures.capacity ∙ c.loop-edge.invariant.4,
)

pub returns-clause-edges : goal.returns-clause-edges
returns-clause-edges c = all_added (get c.args.records.now) (get c.loop-edge.records) c.args.edges.now c.loop-edge.edge-index c.loop-edge-test.false c.loop-edge.invariant.1
