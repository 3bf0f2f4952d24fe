use Rattle.std.proofs.Common.{◌≡◌, ℕ, List, length, ap, sym, ◌∙◌, subst, inl, inr, arith}
use Rattle.std.specs.Prelude.{◌==◌}
use Rattle.std.specs.BinaryHeap.{heap_items, IsHeap}
use Rattle.std.specs.Ordering.{nat_cmp}
use Rattle.std.specs.declared.cmp.Reverse.{Reverse}
use Rattle.std.proofs.lemmas.Bool.{cases_lt}
use Rattle.std.proofs.lemmas.List.Sorted.{sum_by_popped}
use Rattle.wac_edges.specs.private.Ready.{one}
use Rattle.wac_edges.proofs.CycleLemmas.{within}
use Rattle.wac_edges.proofs.ReadyLemmas.{free_here, found_rest, none_below, not_left, popped_lowest, popped_rest}
use Rattle.wac_edges.proofs.order.next_ready.Goals as goal

pub returns-in-Some-clause-lowest : goal.returns-in-Some-clause-lowest
returns-in-Some-clause-lowest c =
    let old = heap_items c.args.ready.now in
    let new = heap_items c.pop.new.self in
    let r = c.in-Some.lowest in
    popped_lowest c.args.left.now c.args.counts.now c.args.bound.now old c.requires.ready.1 new r (c.in-Some.ensures.heap_order c.requires.ready.0).1 (λ q. sum_by_popped (λ (r : Reverse ℕ). one (q == r.0)) r old new c.in-Some.ensures.permutation)

pub returns-in-Some-clause-small : goal.returns-in-Some-clause-small
returns-in-Some-clause-small c =
    let old = heap_items c.args.ready.now in
    let new = heap_items c.pop.new.self in
    let r = c.in-Some.lowest in
    let lowest = popped_lowest c.args.left.now c.args.counts.now c.args.bound.now old c.requires.ready.1 new r (c.in-Some.ensures.heap_order c.requires.ready.0).1 (λ q. sum_by_popped (λ (r : Reverse ℕ). one (q == r.0)) r old new c.in-Some.ensures.permutation) in
    within c.args.left.now r.0 (free_here c.args.left.now c.args.counts.now r.0 lowest)

pub returns-in-Some-clause-rest : goal.returns-in-Some-clause-rest
returns-in-Some-clause-rest c =
    let old = heap_items c.args.ready.now in
    let new = heap_items c.pop.new.self in
    let r = c.in-Some.lowest in (
      (c.in-Some.ensures.heap_order c.requires.ready.0).0,
      popped_rest c.args.left.now c.args.counts.now c.args.bound.now old c.requires.ready.1 new r (λ q. sum_by_popped (λ (r : Reverse ℕ). one (q == r.0)) r old new c.in-Some.ensures.permutation),
    )

pub loop-n-init : goal.loop-n-init
loop-n-init c = none_below c.args.left.now c.args.counts.now c.args.bound.now (heap_items c.args.ready.now) c.requires.ready.1 (omega (arith, c.args.ready.now.data.ok.0, c.in_default.ensures.none))

pub returns-then-is_left_with-clause-lowest : goal.returns-then-is_left_with-clause-lowest
returns-then-is_left_with-clause-lowest c = record { here = sym c.is_left_with.ensures ∙ c.if-is_left_with.true; lower = c.loop-n.invariant }

pub returns-then-is_left_with-clause-rest : goal.returns-then-is_left_with-clause-rest
returns-then-is_left_with-clause-rest c =
    let same = c.in_default.ensures.unchanged.0 in
    let none : length (heap_items c.pop.new.self) ≡ 0 = ap (λ (rs : List (Reverse ℕ)). length rs) same ∙ omega (arith, c.args.ready.now.data.ok.0, c.in_default.ensures.none) in (
      subst (λ (rs : List (Reverse ℕ)). IsHeap (λ x y. nat_cmp y.0 x.0) rs) (sym same) c.requires.ready.0,
      found_rest c.args.left.now c.args.counts.now (heap_items c.pop.new.self) c.loop-n.n none c.loop-n.invariant,
    )

pub returns-clause-none : goal.returns-clause-none
returns-clause-none c = λ m. elim (cases_lt m c.loop-n.n) [
  | inl low ↦ c.loop-n.invariant m low
  | inr high ↦ not_left c.args.left.now c.args.counts.now m (omega (arith, c.loop-n-test.false, high))
]
