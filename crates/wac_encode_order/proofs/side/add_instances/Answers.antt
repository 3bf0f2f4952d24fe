use Rattle.std.proofs.Common.{ap, sym, ◌∙◌, arith}
use Rattle.wac_types_shapes.specs.primitives.Name.{Name}
use Rattle.wac_types_shapes.specs.declared.shapes.component.ItemKind.{ItemKind}
use Rattle.wac_encode_order.specs.private.SideOrder.{lists_instance}
use Rattle.wac_encode_order.proofs.Siding.{picked-passed, picked-next, picked-done}
use Rattle.wac_encode_order.proofs.side.add_instances.Goals as goal
use Rattle.wac_encode_order.proofs.side.add_instances.Goals.{then-is_instance+in_ok-push, else-is_instance}

pub loop-i-preserved : goal.loop-i-preserved
loop-i-preserved c =
    let e : Name × ItemKind = (c.entry_at.result.0.now, c.entry_at.result.1.now) in
    elim c.if-is_instance.branch [
      | then-is_instance+in_ok-push w ↦ picked-next lists_instance c.args.items.now c.loop-i.i e c.loop-i.numbers.items c.if-is_instance.numbers.items _ c.entry_at.ensures (sym c.is_instance.ensures ∙ w.if-is_instance.true) (ap (λ v. v.items) w.numbers-is ∙ w.in_ok-push.ensures.items) c.loop-i.invariant
      | else-is_instance w ↦ picked-passed lists_instance c.args.items.now c.loop-i.i e c.loop-i.numbers.items c.if-is_instance.numbers.items _ c.entry_at.ensures (sym c.is_instance.ensures ∙ w.if-is_instance.false) (ap (λ v. v.items) w.numbers-is) c.loop-i.invariant
    ]

pub returns : goal.returns
returns c = picked-done lists_instance c.args.items.now c.loop-i.i c.loop-i.numbers.items _ (let l = c.len-i-end.ensures in let f = c.loop-i-test.false in omega (arith, l, f)) c.loop-i.invariant
