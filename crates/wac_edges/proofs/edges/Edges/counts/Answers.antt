use Rattle.std.proofs.Common.{◌≡◌, ◌+◌, ◌<◌, ℕ, List, length, ap, ◌∙◌, subst, arith}
use Rattle.std.specs.Prelude.{slice_index}
use Rattle.std.proofs.lemmas.List.{with_items_is}
use Rattle.slab.specs.Slab.{entries}
use Rattle.wac_edges.specs.Order.{Edges}
use Rattle.wac_edges.specs.private.Ready.{AreAll, leads_from, one}
use Rattle.wac_edges.proofs.CountLemmas.{all_of_table, counted_last, counted_more, edges_of}
use Rattle.wac_edges.proofs.edges.Edges.counts.Goals as goal

pub loop-record-preserved : goal.loop-record-preserved
loop-record-preserved c =
    let flags = c.args.left.now in
    let counts = c.loop-record.counts.items in
    let r = c.in-Some.record.now in
    let long : length c.count.new.counts ≡ length counts = c.count.auto.counts ∙ ap length c.deref_mut.ensures.value in
    let same = with_items_is c.loop-record.counts c.count.new.counts (omega (arith, long, c.loop-record.counts.ok.0)) in
    rw same (
      tt,
      tt,
      long ∙ c.loop-record.invariant.2,
      λ b low.
          let small : b < length counts = omega (arith, low, c.loop-record.invariant.2) in
          let one_more : slice_index c.count.new.counts b ≡ one (leads_from flags b r.edge) + slice_index counts b =
          (subst (λ (old : List ℕ). (b : ℕ) → b < length old → slice_index c.count.new.counts b ≡ one (leads_from flags b r.edge) + slice_index old b) c.deref_mut.ensures.value c.in_ok-count.ensures) b small in
          counted_more flags r _ _ _ b (slice_index counts b) (slice_index c.count.new.counts b) _ c.in-Some.ensures.steps one_more (c.loop-record.invariant.3 b low),
    )

pub returns-clause-counted : goal.returns-clause-counted
returns-clause-counted c =
    let records = c.self.inside.records in (
      edges_of (entries records),
      subst (λ (s : Edges). AreAll s (edges_of (entries records))) c.self.view_is (all_of_table records c.self.inside.firsts.items c.self.invariant.0),
      λ b low. counted_last c.args.left.now (entries records) _ _ b (slice_index c.loop-record.counts.items b) c.in-None.ensures.steps.0 (c.into_iter-record-iterator.ensures.into_iter_gives ∙ c.iter-record-items.ensures.rest) (c.loop-record.invariant.3 b (omega (arith, low, c.loop-record.invariant.2))),
    )
