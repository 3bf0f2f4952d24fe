use Rattle.std.proofs.Common.{◌≡◌, ◌<◌, ◌-◌, ℕ, Bool, true, false, List, [], ◌∷◌, length, ap, sym, ◌∙◌, append_assoc, subst, arith}
use Rattle.std.specs.Prelude.{slice_index}
use Rattle.std.proofs.lemmas.List.{append-nil, with_items_is}
use Rattle.std.proofs.Math.ListN.{length-set}
use Rattle.wac_edges.specs.Edge.{node_number}
use Rattle.wac_edges.specs.Order.{Writes}
use Rattle.wac_edges.specs.private.Ready.{leading, AreReady, IsLowestFree, is_left_with, is_set}
use Rattle.wac_edges.proofs.OrderLemmas.{flags_after}
use Rattle.wac_edges.proofs.CycleLemmas.{stuck_cycle}
use Rattle.wac_edges.proofs.CountLemmas.{counted_next}
use Rattle.wac_edges.proofs.ReadyLemmas.{free_here, lowest_ready, stuck}
use Rattle.wac_edges.proofs.order.order_by_counts.Goals as goal

pub loop-n-preserved : goal.loop-n-preserved
loop-n-preserved c =
    let i = c.loop-n.invariant in
    let edges = c.args.edges.now in
    let flags = c.loop-n.left.items in
    let counts = c.loop-n.counts.items in
    let n = c.in-Some.n in
    let lowest : IsLowestFree flags counts n = rw (c.as_slice-in-loop-n.ensures.value, c.as_slice-in-loop-n-2.ensures.value) at c.in-Some.ensures.lowest in
    let here : is_set flags n ≡ true = free_here flags counts n lowest in
    let long : length c.release.new.counts ≡ length counts = c.release.auto.counts ∙ ap length c.as_mut_slice.ensures.value in
    let same = with_items_is c.loop-n.counts c.release.new.counts (omega (arith, long, c.loop-n.counts.ok.0)) in
    rw same (record {
      later = λ ns rest. rw (c.in_ok-push.ensures.items, append_assoc) (i.later (node_number n ∷ ns) (
        lowest_ready edges flags counts i.long i.counted n lowest,
        subst (λ left. Writes edges left ns) (flags_after flags (node_number n)) rest,
      ));
      long = long ∙ i.long ∙ sym (length-set flags n _);
      counted = counted_next flags edges counts c.release.new.counts n c.walk.result.left here c.walk.ensures.edges long i.counted
          (subst (λ (old : List ℕ). (b : ℕ) → b < length old → slice_index c.release.new.counts b ≡ slice_index old b - leading c.walk.result.left b) c.as_mut_slice.ensures.value c.in_ok-release.ensures.counted);
      ready = subst (λ (left : List Bool). AreReady c.release.new.ready c.next_ready.new.bound left c.release.new.counts) c.as_slice-in-Some.ensures.value c.in_ok-release.ensures.ready;
    })

pub returns-then-is_done-clause-whole : goal.returns-then-is_done-clause-whole
returns-then-is_done-clause-whole c = rw append-nil at (c.loop-n.invariant.later [] (λ m. (rw c.deref.ensures.value at c.if-is_done.ensures.done) m.0))

pub returns-clause-cycle : goal.returns-clause-cycle
returns-clause-cycle c =
    let i = c.loop-n.invariant in
    let edges = c.args.edges.now in
    let flags = c.loop-n.left.items in
    let counts = c.loop-n.counts.items in
    let (n, is) = c.if-is_done.ensures.more in
    let none : (n : ℕ) → is_left_with flags counts 0 n ≡ false = rw (c.as_slice-in-loop-n.ensures.value, c.as_slice-in-loop-n-2.ensures.value) at c.in_default.ensures.none in
    stuck_cycle edges flags (stuck edges flags counts i.long i.counted none) (node_number n) (rw c.deref.ensures.value at is)
