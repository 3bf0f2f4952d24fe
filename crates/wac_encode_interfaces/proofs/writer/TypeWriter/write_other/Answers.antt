use Rattle.std.proofs.Common.{length}
use Rattle.wac_types_collection.proofs.lemmas.collection.Steady.{within}
use Rattle.wac_encode_scopes.specs.Contents.{side_of}
use Rattle.wac_encode_interfaces.specs.private.Worlds.{written_in}
use Rattle.wac_encode_interfaces.proofs.Writes.{has-side, still-component, other-may, other-holds, other-worlds, other-item-ready, other-writes}
use Rattle.wac_encode_interfaces.proofs.SideCosts.{added-no-room-after, inside-no-room, other-paid}
use Rattle.wac_encode_interfaces.proofs.Answered.{component-open, exit-room, no-room-of, open-holds}
use Rattle.wac_encode_scopes.proofs.Paying.{priced-stays}
use Rattle.std.specs.Prelude.{[], false}
use Rattle.wac_types_shapes.specs.shapes.Kinds.{kind_type}
use Rattle.wac_encode_interfaces.specs.private.Paid.{inside_cost, side_cost}
use Rattle.wac_encode_interfaces.proofs.writer.TypeWriter.write_other.Goals as goal

pub write_interface_of-requires-clause-held : goal.write_interface_of-requires-clause-held
write_interface_of-requires-clause-held c = λ i is.
    within i.0 (length c.args.self.now.types.now.interfaces) (other-holds c.args.self.now.types.now c.law.ensures c.args.self.now.merged (written_in c.args.self.now.worlds.now) c.args.parts.now c.requires.planned (side_of c.args.side) c.args.name.now c.args.item i c.requires.item is)

pub write_interface_of-requires-clause-ready : goal.write_interface_of-requires-clause-ready
write_interface_of-requires-clause-ready c = λ i is.
    other-may c.args.self.now.types.now c.law.ensures c.args.self.now.merged (written_in c.args.self.now.worlds.now) c.args.parts.now c.requires.planned (side_of c.args.side) c.args.name.now c.args.item i c.args.state.now c.requires.next c.requires.item c.requires.other is

pub write_interface_of-requires-clause-worlds : goal.write_interface_of-requires-clause-worlds
write_interface_of-requires-clause-worlds c = λ i is.
    other-worlds c.args.self.now.types.now c.law.ensures c.args.self.now.merged (written_in c.args.self.now.worlds.now) c.args.parts.now c.requires.planned (side_of c.args.side) c.args.name.now c.args.item i c.requires.item is

pub add_item-requires-clause-side : goal.add_item-requires-clause-side
add_item-requires-clause-side c =
    has-side (side_of c.args.side) c.write_interface_of.new.state.here.content
    (still-component c.args.self.now.types.now c.args.self.now.merged c.args.state.now c.write_interface_of.new.state c.in_ok-write_interface_of.ensures.goes c.requires.next.1.written.content)

pub add_item-requires-clause-ready : goal.add_item-requires-clause-ready
add_item-requires-clause-ready c =
    other-item-ready c.args.self.now.types.now c.law.ensures c.args.self.now.merged (written_in c.args.self.now.worlds.now) c.args.parts.now c.requires.planned (side_of c.args.side) c.args.name.now c.args.item c.args.state.now c.write_interface_of.new.state c.requires.next c.requires.item c.requires.other
    c.in_ok-write_interface_of.ensures.goes c.in_ok-write_interface_of.ensures.has

pub returns-clause-writes : goal.returns-clause-writes
returns-clause-writes c =
    other-writes c.args.self.now.types.now c.law.ensures c.args.self.now.merged (written_in c.args.self.now.worlds.now) c.args.parts.now c.requires.planned (side_of c.args.side) c.args.name.now c.args.item c.args.state.now c.write_interface_of.new.state c.add_item.new.state c.in_ok-add_item.field-0
    c.requires.item c.requires.other c.in_ok-write_interface_of.ensures.goes c.in_ok-add_item.ensures.adds c.in_ok-add_item.ensures.beside

pub returns-in_err-write_interface_of-clause-paid : goal.returns-in_err-write_interface_of-clause-paid
returns-in_err-write_interface_of-clause-paid c ts covers priced =
    exit-room c.args.self.now.types.now c.args.self.now.merged ts (side_cost c.args.self.now.types.now c.args.name.now c.args.item false) c.args.state.now c.write_interface_of.new.state _ c.from_residual.result c.from_residual.ensures.1
    (λ is. inside-no-room c.weight_law.ensures.scope_weighs_its_parts c.args.self.now.types.now c.law.ensures c.args.self.now.merged ts c.args.name.now c.args.item (c.requires.planned.writable.held (side_of c.args.side) c.args.name.now c.args.item false c.requires.item) c.args.state.now (no-room-of c.args.self.now.types.now c.args.self.now.merged [] (inside_cost c.args.self.now.types.now (kind_type c.args.item)) c.args.state.now _ is (c.in_err-write_interface_of.ensures.paid (open-holds c.args.self.now.merged c.args.state.now.here.content (kind_type c.args.item) (component-open c.args.state.now.here.content c.requires.next.1.written.content)) priced)))

pub returns-in_err-add_item-clause-paid : goal.returns-in_err-add_item-clause-paid
returns-in_err-add_item-clause-paid c ts covers priced =
    exit-room c.args.self.now.types.now c.args.self.now.merged ts (side_cost c.args.self.now.types.now c.args.name.now c.args.item false) c.args.state.now c.add_item.new.state _ c.from_residual-in_err-add_item.result c.from_residual-in_err-add_item.ensures.1
    (λ is. added-no-room-after c.weight_law.ensures.scope_weighs_its_parts c.args.self.now.types.now c.law.ensures c.args.self.now.merged ts c.args.name.now c.args.item (c.requires.planned.writable.held (side_of c.args.side) c.args.name.now c.args.item false c.requires.item) c.args.state.now c.write_interface_of.new.state (component-open c.write_interface_of.new.state.here.content (still-component c.args.self.now.types.now c.args.self.now.merged c.args.state.now c.write_interface_of.new.state c.in_ok-write_interface_of.ensures.goes c.requires.next.1.written.content)) (c.in_ok-write_interface_of.ensures.paid (open-holds c.args.self.now.merged c.args.state.now.here.content (kind_type c.args.item) (component-open c.args.state.now.here.content c.requires.next.1.written.content)) priced) (no-room-of c.args.self.now.types.now c.args.self.now.merged ts _ c.write_interface_of.new.state _ is (c.in_err-add_item.ensures.paid ts covers (priced-stays c.args.self.now.merged c.args.state.now c.write_interface_of.new.state c.in_ok-write_interface_of.ensures.goes.types priced))))

pub returns-clause-paid : goal.returns-clause-paid
returns-clause-paid c ts covers priced =
    other-paid c.weight_law.ensures.scope_weighs_its_parts c.args.self.now.types.now c.law.ensures c.args.self.now.merged ts c.args.name.now c.args.item (c.requires.planned.writable.held (side_of c.args.side) c.args.name.now c.args.item false c.requires.item) c.args.state.now c.write_interface_of.new.state (component-open c.write_interface_of.new.state.here.content (still-component c.args.self.now.types.now c.args.self.now.merged c.args.state.now c.write_interface_of.new.state c.in_ok-write_interface_of.ensures.goes c.requires.next.1.written.content)) c.add_item.new.state (c.in_ok-write_interface_of.ensures.paid (open-holds c.args.self.now.merged c.args.state.now.here.content (kind_type c.args.item) (component-open c.args.state.now.here.content c.requires.next.1.written.content)) priced) (c.in_ok-add_item.ensures.paid ts covers (priced-stays c.args.self.now.merged c.args.state.now c.write_interface_of.new.state c.in_ok-write_interface_of.ensures.goes.types priced))
