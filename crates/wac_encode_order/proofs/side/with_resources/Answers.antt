use Rattle.std.specs.Prelude.{◌++◌, ◌∷◌, List, ℕ, Bool, drop, if◌then◌else◌}
use Rattle.std.proofs.Common.{ap, ◌∙◌, arith}
use Rattle.wac_types_shapes.specs.primitives.Name.{Name}
use Rattle.wac_types_shapes.specs.declared.shapes.component.ItemKind.{ItemKind}
use Rattle.wac_encode_order.specs.private.SideOrder.{lists_resource, positions_of}
use Rattle.wac_encode_order.specs.private.Merging.{merged}
use Rattle.wac_encode_order.proofs.Listing.{dropped, dropped-all}
use Rattle.wac_encode_order.proofs.Merges.{merging-next, merging-ends}
use Rattle.wac_encode_order.proofs.side.with_resources.Goals as goal

pub loop-i-init : goal.loop-i-init
loop-i-init c = ap (λ (xs : List ℕ). xs ++ merged c.args.numbers.now (positions_of lists_resource 0 c.args.items.now)) c.new-order.ensures.items

pub loop-i-preserved : goal.loop-i-preserved
loop-i-preserved c =
    let es = c.args.items.now in
    let ns = c.args.numbers.now in
    let e : Name × ItemKind = (c.entry_at.result.0.now, c.entry_at.result.1.now) in
    merging-next es c.loop-i.i e c.loop-i.order.items c.add_resource.new.order.items ns (merged ns (positions_of lists_resource 0 es)) c.loop-i.next _ (dropped es c.loop-i.i e c.entry_at.ensures)
    (λ rs. c.in_ok-next.ensures rs ∙ ap (λ (b : Bool). c.loop-i.order.items ++ merged (drop c.loop-i.next ns) (if b then c.loop-i.i ∷ rs else rs)) c.is_resource-is_resource.ensures) c.loop-i.invariant

pub returns : goal.returns
returns c =
    let es = c.args.items.now in
    let ns = c.args.numbers.now in
    merging-ends es c.loop-i.i c.loop-i.order.items c.add_from.new.order.items ns (merged ns (positions_of lists_resource 0 es)) c.loop-i.next (dropped-all es c.loop-i.i (let l = c.len-i-end.ensures in let f = c.loop-i-test.false in omega (arith, l, f))) c.in_ok-add_from.ensures c.loop-i.invariant
