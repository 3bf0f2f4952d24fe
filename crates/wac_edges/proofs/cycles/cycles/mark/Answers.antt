use Rattle.std.proofs.Common.{length, fold, sym, ap, ◌∙◌}
use Rattle.wac_edges.specs.private.cycles.CycleSearch.{marked}
use Rattle.wac_edges.proofs.lemmas.cycles.CycleSearch.{below_first, below_next, marked_long}
use Rattle.wac_edges.proofs.cycles.cycles.mark.Goals as goal

pub mark_one-requires : goal.mark_one-requires
mark_one-requires c = below_first (length c.loop-b.reached.items) c.in-Some.b.now c.next.new.self c.loop-b.b-iterator c.in-Some.ensures.steps c.loop-b.invariant.low

pub loop-b-preserved : goal.loop-b-preserved
loop-b-preserved c =
    record {
      low = below_next (length c.loop-b.reached.items) (length c.mark_one.new.reached.items) c.in-Some.b.now c.next.new.self c.loop-b.b-iterator c.in-Some.ensures.steps
          (ap (λ p. length p.0) c.in_ok-mark_one.ensures ∙ marked_long (c.loop-b.reached.items, c.loop-b.pending.items) c.in-Some.b.now) c.loop-b.invariant.low;
      folds = ap (λ p. fold marked p c.next.new.self) c.in_ok-mark_one.ensures ∙ (sym (ap (fold marked (c.loop-b.reached.items, c.loop-b.pending.items)) c.in-Some.ensures.steps) ∙ c.loop-b.invariant.folds);
    }
