use Rattle.std.proofs.Common.{ap, sym, ◌∙◌, arith}
use Rattle.wac_types_shapes.specs.primitives.Name.{Name}
use Rattle.wac_types_shapes.specs.declared.shapes.component.ItemKind.{ItemKind}
use Rattle.wac_encode_order.proofs.Listing.{others-passed, others-next, others-done}
use Rattle.wac_encode_order.proofs.interface.add_others.Goals as goal
use Rattle.wac_encode_order.proofs.interface.add_others.Goals.{then-not-is_type_item+in_ok-push, else-not-is_type_item}

pub loop-i-preserved : goal.loop-i-preserved
loop-i-preserved c =
    let e : Name × ItemKind = (c.entry_at.result.0.now, c.entry_at.result.1.now) in
    elim c.if-not-is_type_item.branch [
      | then-not-is_type_item+in_ok-push w ↦ others-next c.args.items.now c.loop-i.i e c.loop-i.order.items c.if-not-is_type_item.order.items _ c.entry_at.ensures (sym c.is_type_item.ensures ∙ w.if-not-is_type_item.true) (ap (λ v. v.items) w.order-is ∙ w.in_ok-push.ensures.items) c.loop-i.invariant
      | else-not-is_type_item w ↦ others-passed c.args.items.now c.loop-i.i e c.loop-i.order.items c.if-not-is_type_item.order.items _ c.entry_at.ensures (sym c.is_type_item.ensures ∙ w.if-not-is_type_item.false) (ap (λ v. v.items) w.order-is) c.loop-i.invariant
    ]

pub returns : goal.returns
returns c = others-done c.args.items.now c.loop-i.i c.loop-i.order.items _ (let l = c.len-i-end.ensures in let f = c.loop-i-test.false in omega (arith, l, f)) c.loop-i.invariant
