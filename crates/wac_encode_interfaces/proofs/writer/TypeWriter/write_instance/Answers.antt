use Rattle.std.proofs.Common.{length, refl}
use Rattle.wac_types_collection.proofs.lemmas.collection.Steady.{within}
use Rattle.wac_encode_scopes.specs.Contents.{side_of, content_of}
use Rattle.wac_encode_interfaces.specs.private.Worlds.{written_in}
use Rattle.wac_encode_interfaces.proofs.Written.{on-ok}
use Rattle.wac_encode_interfaces.proofs.Writes.{instance-held, instance-worlds, instance-may, instance-writes, instance-unrecorded-yet}
use Rattle.wac_encode_interfaces.proofs.SideCosts.{listed-less, told-less}
use Rattle.wac_encode_interfaces.proofs.Answered.{alone-after, exit-room, interface-there, no-room-of, priced-alone, up-to-answer}
use Rattle.wac_encode_scopes.proofs.Paying.{memory-answer, no-room-up-to, then-answer}
use Rattle.std.specs.Prelude.{◌+◌, ◌*◌, []}
use Rattle.wac_binary.specs.declared.fault.BinaryFault.TheVariants.{OutOfMemory}
use Rattle.wac_types_shapes.specs.declared.shapes.component.ItemKind.TheVariants as kind
use Rattle.wac_encode_scopes.specs.private.Paid.{interface_cost, telling_cost}
use Rattle.wac_encode_interfaces.specs.private.Paid.{side_cost}
use Rattle.wac_encode_interfaces.proofs.writer.TypeWriter.write_instance.Goals as goal

pub list_instance-requires-clause-content : goal.list_instance-requires-clause-content
list_instance-requires-clause-content c = c.requires.next.1.written.content

pub list_instance-requires-clause-held : goal.list_instance-requires-clause-held
list_instance-requires-clause-held c =
    let t = c.args.self.now.types.now in
    within c.args.interface.0 (length t.interfaces) (instance-held t c.law.ensures c.args.self.now.merged (written_in c.args.self.now.worlds.now) c.args.parts.now c.requires.planned (side_of c.args.side) c.args.name.now c.args.interface c.args.types_only c.requires.item)

pub list_instance-requires-clause-ready : goal.list_instance-requires-clause-ready
list_instance-requires-clause-ready c = instance-may c.args.self.now.types.now c.law.ensures c.args.self.now.merged (written_in c.args.self.now.worlds.now) c.args.parts.now c.requires.planned (side_of c.args.side) c.args.name.now c.args.interface c.args.types_only c.args.state.now c.requires.next c.requires.item

pub list_instance-requires-clause-worlds : goal.list_instance-requires-clause-worlds
list_instance-requires-clause-worlds c = instance-worlds c.args.self.now.types.now c.law.ensures c.args.self.now.merged (written_in c.args.self.now.worlds.now) c.args.parts.now c.requires.planned (side_of c.args.side) c.args.name.now c.args.interface c.args.types_only c.requires.item

pub owned_resources-requires : goal.owned_resources-requires
owned_resources-requires c =
    let t = c.args.self.now.types.now in
    within c.args.interface.0 (length t.interfaces) (instance-held t c.law.ensures c.args.self.now.merged (written_in c.args.self.now.worlds.now) c.args.parts.now c.requires.planned (side_of c.args.side) c.args.name.now c.args.interface c.args.types_only c.requires.item)

pub tell_instance-requires-clause-closed : goal.tell_instance-requires-clause-closed
tell_instance-requires-clause-closed c = c.requires.writer.closed

pub tell_instance-requires-clause-held : goal.tell_instance-requires-clause-held
tell_instance-requires-clause-held c =
    let t = c.args.self.now.types.now in
    within c.args.interface.0 (length t.interfaces) (instance-held t c.law.ensures c.args.self.now.merged (written_in c.args.self.now.worlds.now) c.args.parts.now c.requires.planned (side_of c.args.side) c.args.name.now c.args.interface c.args.types_only c.requires.item)

pub returns-clause-writes : goal.returns-clause-writes
returns-clause-writes c =
    on-ok c.tell_instance.result
    (λ tells. instance-writes c.args.self.now.types.now c.law.ensures c.args.self.now.merged (written_in c.args.self.now.worlds.now) c.args.parts.now c.requires.planned (side_of c.args.side) c.args.name.now c.instance_law.ensures.shows_whole c.args.interface c.args.types_only c.args.number
    c.in_ok-own.own.keys c.args.state.now c.list_instance.new.state c.tell_instance.new.self c.in_ok-instance.instance c.requires.item c.requires.number c.in_ok-instance.ensures.lists c.in_ok-own.ensures tells c.tell_instance.ensures.types)
    c.tell_instance.ensures.tells

pub returns-in_err-instance-clause-paid : goal.returns-in_err-instance-clause-paid
returns-in_err-instance-clause-paid c priced =
    exit-room c.args.self.now.types.now c.args.self.now.merged [] (side_cost c.args.self.now.types.now c.args.name.now (kind.Instance c.args.interface) c.args.types_only) c.args.state.now c.list_instance.new.state _ c.from_residual.result c.from_residual.ensures.1
    (λ is. no-room-up-to c.args.self.now.types.now c.args.self.now.merged [] (10 + 2 * length c.args.name.now + interface_cost c.args.self.now.types.now c.args.interface) (side_cost c.args.self.now.types.now c.args.name.now (kind.Instance c.args.interface) c.args.types_only) c.args.state.now (listed-less c.weight_law.ensures.scope_weighs_its_parts c.args.self.now.types.now c.law.ensures c.args.name.now c.args.interface c.args.types_only (instance-held c.args.self.now.types.now c.law.ensures c.args.self.now.merged (written_in c.args.self.now.worlds.now) c.args.parts.now c.requires.planned (side_of c.args.side) c.args.name.now c.args.interface c.args.types_only c.requires.item)) (no-room-of c.args.self.now.types.now c.args.self.now.merged [] (10 + 2 * length c.args.name.now + interface_cost c.args.self.now.types.now c.args.interface) c.args.state.now _ is (c.in_err-instance.ensures.paid priced)))

pub returns-in_err-own-clause-paid : goal.returns-in_err-own-clause-paid
returns-in_err-own-clause-paid c priced =
    memory-answer c.args.self.now.types.now c.args.self.now.merged [] (side_cost c.args.self.now.types.now c.args.name.now (kind.Instance c.args.interface) c.args.types_only) c.args.state.now _ OutOfMemory c.from_residual-in_err-own.result c.from_residual-in_err-own.ensures.1 refl

pub returns-clause-paid : goal.returns-clause-paid
returns-clause-paid c priced =
    let held = (instance-held c.args.self.now.types.now c.law.ensures c.args.self.now.merged (written_in c.args.self.now.worlds.now) c.args.parts.now c.requires.planned (side_of c.args.side) c.args.name.now c.args.interface c.args.types_only c.requires.item) in
    let it = interface-there c.args.self.now.types.now c.args.interface (within c.args.interface.0 (length c.args.self.now.types.now.interfaces) held) in
    let told = telling_cost c.args.self.now.merged (content_of c.list_instance.new.state.here.content) it.0.exports in
    let unrecorded = instance-unrecorded-yet c.args.self.now.types.now c.law.ensures c.args.self.now.merged (written_in c.args.self.now.worlds.now) c.args.parts.now c.requires.planned (side_of c.args.side) c.args.name.now c.args.interface c.args.types_only c.args.number c.in_ok-own.own.keys c.args.state.now c.list_instance.new.state c.in_ok-instance.instance c.requires.next c.requires.item c.requires.number c.in_ok-instance.ensures.lists c.in_ok-own.ensures in
    let later = priced-alone c.args.self.now.merged c.list_instance.new.state (alone-after c.args.self.now.types.now c.args.self.now.merged [] (10 + 2 * length c.args.name.now + interface_cost c.args.self.now.types.now c.args.interface) c.args.state.now c.list_instance.new.state (c.in_ok-instance.ensures.paid priced) c.requires.next.1.written.around) in
    up-to-answer c.args.self.now.types.now c.args.self.now.merged [] ((10 + 2 * length c.args.name.now + interface_cost c.args.self.now.types.now c.args.interface) + told) (side_cost c.args.self.now.types.now c.args.name.now (kind.Instance c.args.interface) c.args.types_only) c.args.state.now c.tell_instance.new.self c.tell_instance.result (told-less c.weight_law.ensures.scope_weighs_its_parts c.args.self.now.types.now c.law.ensures c.args.self.now.merged c.args.name.now c.args.interface c.args.types_only held it.0 it.1 (10 + 2 * length c.args.name.now + interface_cost c.args.self.now.types.now c.args.interface) c.args.state.now c.list_instance.new.state (c.in_ok-instance.ensures.paid priced) c.requires.next.1.written.content)
    (then-answer c.args.self.now.types.now c.args.self.now.merged [] (10 + 2 * length c.args.name.now + interface_cost c.args.self.now.types.now c.args.interface) told c.args.state.now c.list_instance.new.state c.tell_instance.new.self c.tell_instance.result (c.in_ok-instance.ensures.paid priced) (c.tell_instance.ensures.paid it.0 it.1 unrecorded later))
