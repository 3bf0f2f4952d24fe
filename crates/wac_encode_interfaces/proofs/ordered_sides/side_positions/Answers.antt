use Rattle.std.proofs.Common.{ℕ, ◌≡◌, ◌<◌, ◌+◌, ◌↔◌, List, Some, Contains, length, slice_get, ap, sym, ◌∙◌, subst}
use Rattle.std.specs.BTreeSet.{BTreeSet}
use Rattle.wac_edges.specs.cycles.Cycles.{AreWithin, HasNoCycle, IsStep}
use Rattle.wac_encode_order.specs.private.SideOrder.{IsSideOrder}
use Rattle.wac_encode_interfaces.specs.private.Ordered.{AreMoved, IsOrdered}
use Rattle.wac_encode_interfaces.proofs.Positions.{moved-within, moved-no-cycle, are-ordered, if-three}
use Rattle.wac_encode_interfaces.proofs.ordered_sides.side_positions.Goals as goal

pub side_order-requires-clause-within : goal.side_order-requires-clause-within
side_order-requires-clause-within c =
    subst (λ (l : List (BTreeSet ℕ)). AreWithin l) (sym c.as_slice.ensures.value)
    (moved-within c.args.first _ c.args.steps.now c.in_ok-moved.moved.items c.in_ok-moved.ensures.counted c.in_ok-moved.ensures.moved)

pub side_order-requires-clause-ordered : goal.side_order-requires-clause-ordered
side_order-requires-clause-ordered c =
    subst (λ (l : List (BTreeSet ℕ)). HasNoCycle l) (sym c.as_slice.ensures.value)
    (moved-no-cycle c.args.first _ c.args.steps.now c.in_ok-moved.moved.items c.in_ok-moved.ensures.moved c.requires.ordered)

pub returns : goal.returns
returns c =
    let t = c.args.types.now in
    let now = c.as_slice.result.now in
    let count = c.len.result + c.args.additional in
    let moved : AreMoved c.args.first c.args.steps.now count now = subst (λ (l : List (BTreeSet ℕ)). AreMoved c.args.first c.args.steps.now count l) (sym c.as_slice.ensures.value) c.in_ok-moved.ensures.moved in
    if-three (λ o. IsSideOrder t c.args.listed.now c.args.additional (IsStep now) o.items) (λ o. (k : ℕ) → (Contains o.items k ↔ k < length c.args.listed.now + c.args.additional)) (λ o. (i j k : ℕ) → slice_get o.items i ≡ Some k → slice_get o.items j ≡ Some k → i ≡ j)
    (λ o. IsOrdered c.args.steps.now c.args.first (length c.args.listed.now + c.args.additional) o.items) c.side_order.result
    (λ o is each_one once_each. are-ordered t c.args.listed.now c.args.additional c.args.first count c.args.steps.now now o.items (ap (λ (m : ℕ). m + c.args.additional) c.len.ensures) moved is each_one once_each)
    c.side_order.ensures.order c.side_order.ensures.each c.side_order.ensures.once
