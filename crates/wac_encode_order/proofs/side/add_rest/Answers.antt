use Rattle.std.proofs.Common.{ap, sym, ◌∙◌, arith}
use Rattle.wac_types_shapes.specs.primitives.Name.{Name}
use Rattle.wac_types_shapes.specs.declared.shapes.component.ItemKind.{ItemKind}
use Rattle.wac_encode_order.specs.private.SideOrder.{lists_rest}
use Rattle.wac_encode_order.proofs.Siding.{picked-passed, picked-next, picked-done}
use Rattle.wac_encode_order.proofs.side.add_rest.Goals as goal
use Rattle.wac_encode_order.proofs.side.add_rest.Goals.{then-is_rest+in_ok-push, else-is_rest}

pub loop-i-preserved : goal.loop-i-preserved
loop-i-preserved c =
    let e : Name × ItemKind = (c.entry_at.result.0.now, c.entry_at.result.1.now) in
    elim c.if-is_rest.branch [
      | then-is_rest+in_ok-push w ↦ picked-next lists_rest c.args.items.now c.loop-i.i e c.loop-i.numbers.items c.if-is_rest.numbers.items _ c.entry_at.ensures (sym c.is_rest.ensures ∙ w.if-is_rest.true) (ap (λ v. v.items) w.numbers-is ∙ w.in_ok-push.ensures.items) c.loop-i.invariant
      | else-is_rest w ↦ picked-passed lists_rest c.args.items.now c.loop-i.i e c.loop-i.numbers.items c.if-is_rest.numbers.items _ c.entry_at.ensures (sym c.is_rest.ensures ∙ w.if-is_rest.false) (ap (λ v. v.items) w.numbers-is) c.loop-i.invariant
    ]

pub returns : goal.returns
returns c = picked-done lists_rest c.args.items.now c.loop-i.i c.loop-i.numbers.items _ (let l = c.len-i-end.ensures in let f = c.loop-i-test.false in omega (arith, l, f)) c.loop-i.invariant
