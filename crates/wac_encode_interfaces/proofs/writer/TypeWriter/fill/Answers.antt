use Rattle.std.proofs.Common.{arith}
use Rattle.wac_encode_interfaces.specs.private.Worlds.{written_in}
use Rattle.wac_encode_interfaces.proofs.Parts.{under-way-on}
use Rattle.wac_encode_interfaces.proofs.Ended.{filling-none, filling-on, filling-less}
use Rattle.wac_encode_interfaces.proofs.Refused.{keeps-both}
use Rattle.wac_encode_interfaces.proofs.Charged.{filling-begun, filling-further, filling-no-room, next-there}
use Rattle.wac_encode_interfaces.proofs.Answered.{exit-large, no-room-of}
use Rattle.wac_encode_interfaces.specs.private.Paid.{next_cost}
use Rattle.wac_encode_interfaces.proofs.writer.TypeWriter.fill.Goals as goal

pub items-init : goal.items-init
items-init c = record { filling = filling-none c.args.self.now.types.now c.args.self.now.merged c.args.state.now c.args.level.now; paid = filling-begun c.args.self.now.types.now c.args.self.now.merged c.args.state.now c.args.level.now }

pub missing-requires-clause-level : goal.missing-requires-clause-level
missing-requires-clause-level c = (under-way-on c.args.self.now.types.now c.args.self.now.merged (written_in c.args.self.now.worlds.now) c.args.state.now c.items.state c.args.level.now c.items.level c.requires.under_way.0 c.requires.under_way.1 c.items.invariant.filling.keeps).3.2.0

pub missing-requires-clause-left : goal.missing-requires-clause-left
missing-requires-clause-left c = let l = c.len.ensures in let o = c.items.level.order.ok.0 in let t = c.items-test.true in omega (arith, l, o, t)

pub export_next-requires-clause-under_way : goal.export_next-requires-clause-under_way
export_next-requires-clause-under_way c = (c.requires.under_way.0, under-way-on c.args.self.now.types.now c.args.self.now.merged (written_in c.args.self.now.worlds.now) c.args.state.now c.items.state c.args.level.now c.items.level c.requires.under_way.0 c.requires.under_way.1 c.items.invariant.filling.keeps)

pub export_next-requires-clause-known : goal.export_next-requires-clause-known
export_next-requires-clause-known c = c.missing.ensures.known c.in_default.is

pub export_next-requires-clause-left : goal.export_next-requires-clause-left
export_next-requires-clause-left c = let l = c.len.ensures in let o = c.items.level.order.ok.0 in let t = c.items-test.true in omega (arith, l, o, t)

pub items-preserved : goal.items-preserved
items-preserved c =
    let level = (under-way-on c.args.self.now.types.now c.args.self.now.merged (written_in c.args.self.now.worlds.now) c.args.state.now c.items.state c.args.level.now c.items.level c.requires.under_way.0 c.requires.under_way.1 c.items.invariant.filling.keeps).3.2.0 in
    let next = next-there c.args.self.now.types.now c.items.level level (let l = c.len.ensures in let o = c.items.level.order.ok.0 in let t = c.items-test.true in omega (arith, l, o, t)) in
    record {
      filling = filling-on c.args.self.now.types.now c.args.self.now.merged c.args.state.now c.items.state c.export_next.new.state c.args.level.now c.items.level c.export_next.new.level c.items.invariant.filling c.in_ok-export_next.ensures.keeps c.in_ok-export_next.ensures.level c.export_next.ensures.kept;
      paid = filling-further c.weight_law.ensures.scope_weighs_its_parts c.args.self.now.types.now c.law.ensures c.args.self.now.merged c.args.state.now c.items.state c.args.level.now c.items.level c.items.invariant.filling.same level next.0 next.1 next.2 c.items.invariant.paid c.export_next.new.state c.export_next.new.level c.in_ok-export_next.ensures.level c.in_ok-export_next.ensures.paid c.in_ok-export_next.ensures.priced;
    }

pub items-smaller : goal.items-smaller
items-smaller c = filling-less c.items.level c.export_next.new.level c.in_ok-export_next.ensures.level (let l = c.len.ensures in let o = c.items.level.order.ok.0 in let t = c.items-test.true in omega (arith, l, o, t))

pub returns-in-Some-clause-keeps : goal.returns-in-Some-clause-keeps
returns-in-Some-clause-keeps c = c.items.invariant.filling.keeps

pub returns-in-Some-clause-filled : goal.returns-in-Some-clause-filled
returns-in-Some-clause-filled c = c.in-Some.ensures.waits

pub returns-in-Some-clause-same : goal.returns-in-Some-clause-same
returns-in-Some-clause-same c = c.items.invariant.filling.same

pub returns-in-Some-clause-further : goal.returns-in-Some-clause-further
returns-in-Some-clause-further c = c.items.invariant.filling.further

pub returns-clause-keeps : goal.returns-clause-keeps
returns-clause-keeps c = c.items.invariant.filling.keeps

pub returns-clause-filled : goal.returns-clause-filled
returns-clause-filled c = let l = c.len.ensures in let o = c.items.level.order.ok.0 in let t = c.items-test.false in omega (arith, l, o, t)

pub returns-clause-same : goal.returns-clause-same
returns-clause-same c = c.items.invariant.filling.same

pub returns-clause-further : goal.returns-clause-further
returns-clause-further c = c.items.invariant.filling.further

pub returns-in_err-export_next-clause-kept : goal.returns-in_err-export_next-clause-kept
returns-in_err-export_next-clause-kept c = keeps-both c.args.state.now c.items.state c.export_next.new.state c.items.invariant.filling.kept c.export_next.ensures.kept

pub returns-in-Some-clause-kept : goal.returns-in-Some-clause-kept
returns-in-Some-clause-kept c = c.items.invariant.filling.kept

pub returns-clause-kept : goal.returns-clause-kept
returns-clause-kept c = c.items.invariant.filling.kept

pub returns-in-Some-clause-paid : goal.returns-in-Some-clause-paid
returns-in-Some-clause-paid c =
    c.items.invariant.paid.paid

pub returns-clause-paid : goal.returns-clause-paid
returns-clause-paid c =
    c.items.invariant.paid.paid

pub returns-in_err-export_next-clause-room : goal.returns-in_err-export_next-clause-room
returns-in_err-export_next-clause-room c =
    λ h.
    (let level = (under-way-on c.args.self.now.types.now c.args.self.now.merged (written_in c.args.self.now.worlds.now) c.args.state.now c.items.state c.args.level.now c.items.level c.requires.under_way.0 c.requires.under_way.1 c.items.invariant.filling.keeps).3.2.0 in
    let next = next-there c.args.self.now.types.now c.items.level level (let l = c.len.ensures in let o = c.items.level.order.ok.0 in let t = c.items-test.true in omega (arith, l, o, t)) in
    let is = exit-large _ c.from_residual.result c.from_residual.ensures.1 h in
    filling-no-room c.weight_law.ensures.scope_weighs_its_parts c.args.self.now.types.now c.law.ensures c.args.self.now.merged c.args.state.now c.items.state c.args.level.now c.items.level c.items.invariant.filling.same level next.0 next.1 next.2 c.items.invariant.paid (λ ts covers priced. no-room-of c.args.self.now.types.now c.args.self.now.merged ts (next_cost c.args.self.now.types.now c.items.level) c.items.state _ is (c.in_err-export_next.ensures.paid ts covers priced)))
