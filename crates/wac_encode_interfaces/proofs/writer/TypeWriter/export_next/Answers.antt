use Rattle.std.proofs.Common.{ap, add-one}
use Rattle.wac_encode_interfaces.specs.private.Worlds.{written_in}
use Rattle.wac_encode_interfaces.proofs.Parts.{stays-ready, item-ready, next-type-held}
use Rattle.wac_encode_interfaces.proofs.Told.{has-instance}
use Rattle.wac_encode_interfaces.proofs.Ended.{export-keeps, level-side, one-further}
use Rattle.wac_encode_interfaces.proofs.Refused.{keeps-both, keeps-types}
use Rattle.wac_encode_interfaces.proofs.Charged.{export-no-room, export-paid, next-covers, tell-no-room}
use Rattle.wac_encode_interfaces.proofs.Answered.{exit-room, level-open, no-room-of, open-beside, priced-beside}
use Rattle.wac_encode_scopes.proofs.Paying.{priced-stays}
use Rattle.std.specs.Prelude.{[]}
use Rattle.wac_types_shapes.specs.primitives.Tree.{exported}
use Rattle.wac_encode_interfaces.specs.private.Paid.{next_cost}
use Rattle.wac_encode_interfaces.proofs.writer.TypeWriter.export_next.Goals as goal

pub next_item-item-requires-clause-level : goal.next_item-item-requires-clause-level
next_item-item-requires-clause-level c = c.requires.under_way.1.3.2.0

pub add_item-requires-clause-side : goal.add_item-requires-clause-side
add_item-requires-clause-side c = level-side c.args.self.now.types.now c.args.self.now.merged (written_in c.args.self.now.worlds.now) c.args.state.now c.args.level.now c.requires.under_way.0 c.requires.under_way.1

pub add_item-requires-clause-ready : goal.add_item-requires-clause-ready
add_item-requires-clause-ready c =
    let t = c.args.self.now.types.now in
    let b = c.args.self.now.merged in
    let ws = written_in c.args.self.now.worlds.now in
    item-ready t b ws c.args.state.now c.args.level.now c.next_item-item.result.0.now c.next_item-item.result.1 c.next_item-item.ensures
    (stays-ready c.part_law.ensures.holds_items c.closing_law.ensures.fresh_in_interface t c.law.ensures b ws c.args.state.now c.args.level.now c.requires.under_way.0 c.requires.under_way.1) c.requires.known

pub tell_exports-requires-clause-held : goal.tell_exports-requires-clause-held
tell_exports-requires-clause-held c = next-type-held c.args.self.now.types.now c.law.ensures c.args.level.now c.requires.under_way.1.3.2.0 c.next_item-item.result.0.now c.next_item-item.result.1 c.next_item-item.ensures

pub tell_exports-requires-clause-there : goal.tell_exports-requires-clause-there
tell_exports-requires-clause-there c =
    has-instance c.bringing_law.ensures.good_once c.closing_law.ensures.fresh_in_interface c.args.self.now.types.now c.args.self.now.merged (written_in c.args.self.now.worlds.now) c.args.state.now c.add_item.new.state c.args.level.now
    c.requires.under_way.0 c.requires.under_way.1 c.next_item-item.result.0.now c.next_item-item.result.1 c.in_ok-index.index c.next_item-item.ensures c.in_ok-index.ensures.adds

pub returns-clause-keeps : goal.returns-clause-keeps
returns-clause-keeps c =
    one-further c.args.self.now.types.now c.args.self.now.merged c.args.state.now c.tell_exports.new.state c.args.level.now
    (export-keeps c.listing_law.ensures.lists_one_more c.closing_law.ensures.fresh_in_interface c.args.self.now.types.now c.args.self.now.merged c.args.state.now c.add_item.new.state c.tell_exports.new.state c.args.level.now
    c.next_item-item.result.0.now c.next_item-item.result.1 c.in_ok-index.index c.next_item-item.ensures c.in_ok-index.ensures.adds c.in_ok-index.ensures.beside c.in_ok-tell_exports.ensures.goes)

pub returns-clause-level : goal.returns-clause-level
returns-clause-level c = ap (λ n. record c.args.level.now { next = n }) (add-one c.args.level.now.next)

pub returns-in_err-tell_exports-clause-kept : goal.returns-in_err-tell_exports-clause-kept
returns-in_err-tell_exports-clause-kept c = keeps-both c.args.state.now c.add_item.new.state c.tell_exports.new.state c.add_item.ensures.kept (keeps-types c.add_item.new.state c.tell_exports.new.state c.tell_exports.ensures.types)

pub returns-clause-kept : goal.returns-clause-kept
returns-clause-kept c = keeps-both c.args.state.now c.add_item.new.state c.tell_exports.new.state c.add_item.ensures.kept (keeps-types c.add_item.new.state c.tell_exports.new.state c.tell_exports.ensures.types)

pub returns-in_err-index-clause-paid : goal.returns-in_err-index-clause-paid
returns-in_err-index-clause-paid c ts covers priced =
    exit-room c.args.self.now.types.now c.args.self.now.merged ts (next_cost c.args.self.now.types.now c.args.level.now) c.args.state.now c.add_item.new.state _ c.from_residual.result c.from_residual.ensures.1
    (λ is. export-no-room c.args.self.now.types.now c.args.self.now.merged ts c.args.level.now c.next_item-item.result.0.now c.next_item-item.result.1 c.next_item-item.ensures c.args.state.now (level-open c.args.state.now.here.content c.requires.under_way.1.3.0.here) (no-room-of c.args.self.now.types.now c.args.self.now.merged ts _ c.args.state.now _ is (c.in_err-index.ensures.paid ts (next-covers c.args.self.now.types.now ts c.args.level.now c.next_item-item.result.0.now c.next_item-item.result.1 c.next_item-item.ensures covers) priced)))

pub returns-in_err-tell_exports-clause-paid : goal.returns-in_err-tell_exports-clause-paid
returns-in_err-tell_exports-clause-paid c ts covers priced =
    exit-room c.args.self.now.types.now c.args.self.now.merged ts (next_cost c.args.self.now.types.now c.args.level.now) c.args.state.now c.tell_exports.new.state _ c.from_residual-in_err-tell_exports.result c.from_residual-in_err-tell_exports.ensures.1
    (λ is. tell-no-room c.args.self.now.types.now c.args.self.now.merged ts c.args.level.now c.next_item-item.result.0.now c.next_item-item.result.1 c.next_item-item.ensures c.args.state.now (level-open c.args.state.now.here.content c.requires.under_way.1.3.0.here) c.add_item.new.state (c.in_ok-index.ensures.paid ts (next-covers c.args.self.now.types.now ts c.args.level.now c.next_item-item.result.0.now c.next_item-item.result.1 c.next_item-item.ensures covers) priced) (no-room-of c.args.self.now.types.now c.args.self.now.merged [] _ c.add_item.new.state _ is (c.in_err-tell_exports.ensures.paid (open-beside c.args.self.now.merged exported c.next_item-item.result.0.now c.args.state.now c.add_item.new.state c.in_ok-index.ensures.beside (level-open c.args.state.now.here.content c.requires.under_way.1.3.0.here)) (priced-beside c.args.self.now.merged exported c.next_item-item.result.0.now c.args.state.now c.add_item.new.state c.in_ok-index.ensures.beside priced))))

pub returns-clause-paid : goal.returns-clause-paid
returns-clause-paid c ts covers priced =
    export-paid c.args.self.now.types.now c.args.self.now.merged ts c.args.level.now c.next_item-item.result.0.now c.next_item-item.result.1 c.next_item-item.ensures c.args.state.now (level-open c.args.state.now.here.content c.requires.under_way.1.3.0.here) c.add_item.new.state c.tell_exports.new.state (c.in_ok-index.ensures.paid ts (next-covers c.args.self.now.types.now ts c.args.level.now c.next_item-item.result.0.now c.next_item-item.result.1 c.next_item-item.ensures covers) priced) (c.in_ok-tell_exports.ensures.paid (open-beside c.args.self.now.merged exported c.next_item-item.result.0.now c.args.state.now c.add_item.new.state c.in_ok-index.ensures.beside (level-open c.args.state.now.here.content c.requires.under_way.1.3.0.here)) (priced-beside c.args.self.now.merged exported c.next_item-item.result.0.now c.args.state.now c.add_item.new.state c.in_ok-index.ensures.beside priced))

pub returns-clause-priced : goal.returns-clause-priced
returns-clause-priced c =
    λ priced. priced-stays c.args.self.now.merged c.add_item.new.state c.tell_exports.new.state c.tell_exports.ensures.types (priced-beside c.args.self.now.merged exported c.next_item-item.result.0.now c.args.state.now c.add_item.new.state c.in_ok-index.ensures.beside priced)
