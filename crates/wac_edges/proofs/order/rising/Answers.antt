use Rattle.std.proofs.Common.{[], ◌∷◌, append_assoc, append-nil, subst, sym, arith}
use Rattle.wac_edges.specs.Edge.{node_number}
use Rattle.wac_edges.specs.Order.{Writes}
use Rattle.wac_edges.proofs.RisingLemmas.{left_all, left_none, left_skip, left_after, first_ready}
use Rattle.wac_edges.proofs.order.rising.Goals as goal
use Rattle.wac_edges.proofs.order.rising.Goals.{then-left-n+in_ok-push, else-left-n}

pub loop-n-init : goal.loop-n-init
loop-n-init c = λ edges rising ns writes. rw c.in_ok-ids.ensures.items (subst (λ left. Writes edges left ns) (left_all c.args.left.now) writes)

pub loop-n-preserved : goal.loop-n-preserved
loop-n-preserved c = elim c.if-left-n.branch [
  | then-left-n+in_ok-push w ↦ rw w.ids-is (λ edges rising ns writes. rw (w.in_ok-push.ensures.items, append_assoc) (c.loop-n.invariant edges rising (node_number c.loop-n.n ∷ ns) (first_ready edges c.args.left.now c.loop-n.n rising w.if-left-n.true, subst (λ left. Writes edges left ns) (sym (left_after c.args.left.now c.loop-n.n)) writes)))
  | else-left-n w ↦ rw w.ids-is (λ edges rising ns writes. c.loop-n.invariant edges rising ns (subst (λ left. Writes edges left ns) (left_skip c.args.left.now c.loop-n.n w.if-left-n.false) writes))
]

pub returns : goal.returns
returns c = λ edges rising. rw append-nil at (c.loop-n.invariant edges rising [] (left_none c.args.left.now c.loop-n.n (omega (arith, c.loop-n-test.false))))
