use Rattle.std.proofs.Common.{◌<◌, List, ℕ, map, length, rules, sym, ap, ◌∙◌}
use Rattle.std.specs.Prelude.{slice_index}
use Rattle.wac_edges.specs.private.Arranging.{with_all}
use Rattle.wac_edges.proofs.lemmas.cycles.CycleSearch.{below_first, below_rest}
use Rattle.wac_edges.proofs.arranged.positions.Goals as goal

pub offset_bounds-ranks-number : goal.offset_bounds-ranks-number
offset_bounds-ranks-number c =
    let low : c.in-Some.number.now < length c.args.ranks.now = below_first (length c.args.ranks.now) c.in-Some.number.now c.next.new.self c.loop-number.number-iterator c.in-Some.ensures.steps c.loop-number.invariant.below in
    search rules

pub bounds-ranks-number : goal.bounds-ranks-number
bounds-ranks-number c = below_first (length c.args.ranks.now) c.in-Some.number.now c.next.new.self c.loop-number.number-iterator c.in-Some.ensures.steps c.loop-number.invariant.below

pub loop-number-preserved : goal.loop-number-preserved
loop-number-preserved c =
    let f : ℕ → ℕ = slice_index c.args.ranks.now in
    record {
      below = below_rest (length c.args.ranks.now) c.in-Some.number.now c.next.new.self c.loop-number.number-iterator c.in-Some.ensures.steps c.loop-number.invariant.below;
      folds = ap (λ (ks : List ℕ). with_all ks (map f c.next.new.self)) c.in_ok-put.ensures ∙ (sym (ap (λ (ns : List ℕ). with_all c.loop-number.positions.keys (map f ns)) c.in-Some.ensures.steps) ∙ c.loop-number.invariant.folds);
    }
