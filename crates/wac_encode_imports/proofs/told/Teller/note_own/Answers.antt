use Rattle.std.proofs.Common.{◌≤◌, ◌+◌, ◌<◌, length, refl, sym, subst, ℕ, arith}
use Rattle.wac_encode_imports.proofs.Noted.{items-all, items-first, items-next}
use Rattle.wac_encode_imports.proofs.told.Teller.note_own.Goals as goal

pub loop-i-init : goal.loop-i-init
loop-i-init c = items-first c.args.self.now c.args.position c.args.interface.now c.args.others.now.items

pub note_item-requires-clause-held : goal.note_item-requires-clause-held
note_item-requires-clause-held c = c.requires.held c.loop-i.i (c.entry_at.result.0.now, c.entry_at.result.1.now) c.entry_at.ensures

pub note_item-requires-clause-position : goal.note_item-requires-clause-position
note_item-requires-clause-position c = (let low = c.requires.position in let counted = c.loop-i.invariant.counted in omega (arith, low, counted))

pub loop-i-preserved : goal.loop-i-preserved
loop-i-preserved c =
    items-next c.args.self.now c.args.position c.args.interface.now c.loop-i.i (c.loop-i.i + 1) (c.entry_at.result.0.now, c.entry_at.result.1.now) c.args.others.now.items c.loop-i.others.items c.note_item.new.others.items refl c.entry_at.ensures c.loop-i.invariant c.in_ok-note_item.ensures

pub returns : goal.returns
returns c =
    let past : length c.args.interface.now.exports ≤ c.loop-i.i = (let f = c.loop-i-test.false in let n = c.len-i-end.ensures in omega (arith, f, n)) in
    items-all c.args.self.now c.args.position c.args.interface.now c.loop-i.i c.args.others.now.items c.loop-i.others.items past c.loop-i.invariant
