use Rattle.std.proofs.Common.{sym, subst, ℕ, List, length}
use Rattle.std.proofs.lemmas.Result.{IfOk-weaker}
use Rattle.wac_edges.specs.cycles.Cycles.{IsStep}
use Rattle.wac_encode_order.specs.private.SideOrder.{AreGroups}
use Rattle.wac_edges.specs.Arranged.{AreAll, IsOnce}
use Rattle.wac_encode_order.proofs.Siding.{are-all, are-once, order-each, order-once}
use Rattle.wac_encode_order.proofs.side.side_order.Goals as goal

pub arranged-requires-clause-all : goal.arranged-requires-clause-all
arranged-requires-clause-all c =
    subst (λ (ns : List ℕ). AreAll (length c.args.depends.now) ns) (sym c.as_slice.ensures.value)
    (subst (λ (k : ℕ). AreAll k c.in_ok-all.all.items) (sym c.requires.counted) (are-all c.args.types.now c.args.items.now c.args.additional c.in_ok-all.all.items c.in_ok-all.ensures))

pub arranged-requires-clause-once : goal.arranged-requires-clause-once
arranged-requires-clause-once c = subst (λ (ns : List ℕ). IsOnce ns) (sym c.as_slice.ensures.value) (are-once c.args.types.now c.args.items.now c.args.additional c.in_ok-all.all.items c.in_ok-all.ensures)

pub returns-clause-order : goal.returns-clause-order
returns-clause-order c = IfOk-weaker c.arranged.result _ _ (λ o a. record { all = c.as_slice.result.now; groups = subst (AreGroups c.args.types.now c.args.items.now c.args.additional) (sym c.as_slice.ensures.value) c.in_ok-all.ensures; arranged = a }) c.arranged.ensures

pub returns-clause-each : goal.returns-clause-each
returns-clause-each c = IfOk-weaker c.arranged.result _ _ (λ o a. order-each c.args.types.now c.args.items.now c.args.additional c.as_slice.result.now (subst (AreGroups c.args.types.now c.args.items.now c.args.additional) (sym c.as_slice.ensures.value) c.in_ok-all.ensures) (IsStep c.args.depends.now) o.items a) c.arranged.ensures

pub returns-clause-once : goal.returns-clause-once
returns-clause-once c = IfOk-weaker c.arranged.result _ _ (λ o a. order-once c.args.types.now c.args.items.now c.args.additional c.as_slice.result.now (subst (AreGroups c.args.types.now c.args.items.now c.args.additional) (sym c.as_slice.ensures.value) c.in_ok-all.ensures) (IsStep c.args.depends.now) o.items a c.requires.ordered) c.arranged.ensures
