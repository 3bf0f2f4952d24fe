use Rattle.std.proofs.Common.{ℕ, ◌≡◌, ◌≤◌, ◌+◌, suc, length, sym, ◌∙◌, arith}
use Rattle.wac_types_shapes.specs.primitives.Name.{Name}
use Rattle.wac_types_shapes.specs.declared.shapes.component.ItemKind.{ItemKind}
use Rattle.wac_encode_scopes.specs.private.Closed.{is_closed_in}
use Rattle.wac_encode_scopes.proofs.ApartBits.{among-next, all-among}
use Rattle.wac_encode_scopes.proofs.instances.are_items_of.Goals as goal

pub loop-i-init : goal.loop-i-init
loop-i-init c j e d low there is = absurd (omega (arith, low))

pub loop-i-preserved : goal.loop-i-preserved
loop-i-preserved c =
    let x : Name × ItemKind = (c.entry_at.result.0.now, c.entry_at.result.1.now) in
    let one : c.loop-i.i + 1 ≡ suc c.loop-i.i = omega arith in
    among-next c.args.types.now c.args.interface.now.exports (is_closed_in c.args.closed.now) c.loop-i.i (c.loop-i.i + 1) x one c.entry_at.ensures (sym (c.is_item_of.ensures x.0) ∙ c.if-not-is_item_of.false) c.loop-i.invariant

pub returns : goal.returns
returns c all =
    let past : length c.args.interface.now.exports ≤ c.loop-i.i = (let f = c.loop-i-test.false in let n = c.len-i-end.ensures in omega (arith, f, n)) in
    all-among c.args.types.now c.args.interface.now.exports (is_closed_in c.args.closed.now) c.loop-i.i past c.loop-i.invariant
