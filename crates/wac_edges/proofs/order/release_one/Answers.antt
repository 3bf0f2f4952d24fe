use Rattle.std.proofs.Common.{◌≡◌, ℕ, ◌-◌, sym, ◌∙◌}
use Rattle.std.specs.Prelude.{◌==◌, nat_lt, slice_index}
use Rattle.std.specs.BinaryHeap.{heap_items}
use Rattle.std.specs.declared.cmp.Reverse.{Reverse}
use Rattle.std.proofs.lemmas.List.Sorted.{sum_by_pushed}
use Rattle.wac_edges.specs.private.Ready.{one}
use Rattle.wac_edges.proofs.ReadyLemmas.{released_yes, released_no}
use Rattle.wac_edges.proofs.order.release_one.Goals as goal
use Rattle.wac_edges.proofs.order.release_one.Goals.{then-is_freed+in_ok-push, else-is_freed}

pub returns-after-is_freed-clause-ready : goal.returns-after-is_freed-clause-ready
returns-after-is_freed-clause-ready c =
    let left = c.args.left.now in
    let counts = c.args.counts.now in
    let b = c.args.b in
    let old = heap_items c.args.ready.now in
    let (heap, was) = c.requires.ready in
    let less : c.saturating_sub.result ≡ slice_index counts b - 1 = c.saturating_sub.ensures in
    rw less (elim c.if-is_freed.branch [
      | then-is_freed+in_ok-push w ↦
          let r : Reverse ℕ = record { 0 = b } in
          let new = heap_items w.push.new.self in
          rw w.ready-is (w.in_ok-push.ensures.heap_order heap, released_yes (λ q. nat_lt q c.args.bound) old new left counts b c.if-b-counts.true (sym c.is_freed.ensures ∙ w.if-is_freed.true) (λ q. sum_by_pushed (λ (r : Reverse ℕ). one (q == r.0)) r old new w.in_ok-push.ensures.permutation) was)
      | else-is_freed w ↦ rw w.ready-is (heap, released_no (λ q. nat_lt q c.args.bound) old left counts b c.if-b-counts.true (sym c.is_freed.ensures ∙ w.if-is_freed.false) was)
    ])
