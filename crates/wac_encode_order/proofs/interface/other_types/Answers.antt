use Rattle.std.proofs.Common.{ap, ◌∙◌, ◌≡◌, length, map, arith, ◌++◌, ◌∷◌, []}
use Rattle.wac_encode_order.specs.private.Interfaces.{lists_other_type}
use Rattle.wac_encode_order.proofs.Listing.{mapped-next, taken-all}
use Rattle.wac_encode_order.proofs.interface.other_types.Goals as goal

pub is_other_type-requires : goal.is_other_type-requires
is_other_type-requires c = c.requires c.loop-i.i (c.entry_at.result.0.now, c.entry_at.result.1.now) c.entry_at.ensures

pub loop-i-preserved : goal.loop-i-preserved
loop-i-preserved c = mapped-next (lists_other_type c.args.types.now c.args.interface.now.uses) c.args.interface.now.exports c.loop-i.i (c.entry_at.result.0.now, c.entry_at.result.1.now) c.loop-i.chosen.items c.push.new.self.items c.entry_at.ensures c.loop-i.invariant (c.in_ok-push.ensures.items ∙ ap (λ b. c.loop-i.chosen.items ++ b ∷ []) c.is_other_type.ensures)

pub returns : goal.returns
returns c =
    let whole : c.loop-i.i ≡ length c.args.interface.now.exports = (let l = c.len-i-end.ensures in let f = c.loop-i-test.false in let m = c.loop-i.auto.i-end in omega (arith, l, f, m)) in
    c.loop-i.invariant ∙ ap (map (lists_other_type c.args.types.now c.args.interface.now.uses)) (taken-all c.args.interface.now.exports c.loop-i.i whole)
