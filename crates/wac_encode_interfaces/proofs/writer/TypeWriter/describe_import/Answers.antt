use Rattle.std.proofs.Common.{◌≡◌, true, length, sym, ◌∙◌, subst, ap}
use Rattle.wac_types_shapes.specs.shapes.Kinds.{kind_type}
use Rattle.wac_types_shapes.specs.declared.shapes.component.ItemKind.{ItemKind}
use Rattle.wac_types_shapes.specs.declared.shapes.component.«Type».{«Type» as AnyType}
use Rattle.wac_types_collection.specs.collection.Collection.{holds_type}
use Rattle.wac_types_collection.proofs.lemmas.collection.Steady.{within}
use Rattle.wac_encode_values.specs.private.Values.{IsReady}
use Rattle.wac_encode_scopes.proofs.Stepped.{goes-both}
use Rattle.wac_encode_interfaces.specs.private.Imports.{DescribesImport}
use Rattle.wac_encode_interfaces.specs.private.Items.{DescribesItem}
use Rattle.wac_encode_interfaces.specs.private.Worlds.{HaveWorlds, written_in}
use Rattle.wac_encode_interfaces.proofs.Written.{if-ok, on-ok}
use Rattle.wac_encode_interfaces.proofs.Importing.{component-is, described-component, described-item, interface-ready, item-after}
use Rattle.wac_encode_interfaces.proofs.Refused.{keeps-types, keeps-both, err-of}
use Rattle.wac_encode_interfaces.proofs.ModuleCosts.{described-import-paid, inside-import}
use Rattle.wac_encode_interfaces.proofs.Answered.{exit-room, no-room-of}
use Rattle.wac_encode_scopes.proofs.Paying.{no-room-up-to, no-room-with-more, priced-stays}
use Rattle.std.specs.Prelude.{[]}
use Rattle.wac_types_weight.specs.private.Laws.{Covers}
use Rattle.wac_encode_scopes.specs.private.Paid.{HasNoRoom, IsPaid, world_cost}
use Rattle.wac_encode_interfaces.specs.private.Paid.{import_type_cost, inside_cost}
use Rattle.wac_encode_interfaces.proofs.writer.TypeWriter.describe_import.Goals as goal

pub world-requires-clause-written : goal.world-requires-clause-written
world-requires-clause-written c =
    subst (λ (k : ItemKind). HaveWorlds c.args.self.now.types.now (written_in c.args.self.now.worlds.now) (kind_type k)) (component-is c.args.item c.in-Some.world (sym c.world_in.ensures ∙ c.in-Some.is)) c.requires.ready.worlds

pub returns-in-Some-clause-describes : goal.returns-in-Some-clause-describes
returns-in-Some-clause-describes c = described-component c.args.self.now.types.now c.args.self.now.merged c.world.new.state c.args.item c.in-Some.world c.in_ok-index.index (sym c.world_in.ensures ∙ c.in-Some.is) c.in_ok-index.ensures.is

pub write_interface_of-requires-clause-held : goal.write_interface_of-requires-clause-held
write_interface_of-requires-clause-held c = λ i is. within i.0 (length c.args.self.now.types.now.interfaces) (subst (λ (a : AnyType). holds_type c.args.self.now.types.now a ≡ true) is c.requires.ready.held)

pub write_interface_of-requires-clause-ready : goal.write_interface_of-requires-clause-ready
write_interface_of-requires-clause-ready c = λ i is. interface-ready c.args.self.now.types.now c.args.self.now.merged (written_in c.args.self.now.worlds.now) c.args.state.now c.args.item i is c.requires.ready

pub write_interface_of-requires-clause-worlds : goal.write_interface_of-requires-clause-worlds
write_interface_of-requires-clause-worlds c = λ i is. subst (HaveWorlds c.args.self.now.types.now (written_in c.args.self.now.worlds.now)) is c.requires.ready.worlds

pub describe-requires-clause-ready : goal.describe-requires-clause-ready
describe-requires-clause-ready c =
    item-after c.args.self.now.types.now c.args.self.now.merged (written_in c.args.self.now.worlds.now) c.args.state.now c.write_interface_of.new.state c.args.item (sym c.world_in.ensures ∙ c.in_default.is) c.requires.no_module c.requires.ready c.in_ok-write_interface_of.ensures.goes c.in_ok-write_interface_of.ensures.has

pub returns-clause-goes : goal.returns-clause-goes
returns-clause-goes c =
    on-ok c.describe.result (λ g. goes-both c.step_law.ensures.follows c.args.self.now.types.now c.args.self.now.merged c.args.state.now c.write_interface_of.new.state c.describe.new.state c.in_ok-write_interface_of.ensures.goes g) c.describe.ensures.goes

pub returns-clause-describes : goal.returns-clause-describes
returns-clause-describes c =
    if-ok (DescribesItem c.args.self.now.types.now c.args.self.now.merged c.describe.new.state c.args.item) (DescribesImport c.args.self.now.types.now c.args.self.now.merged c.describe.new.state c.args.item) c.describe.result
    (λ d h. described-item c.args.self.now.types.now c.args.self.now.merged c.describe.new.state c.args.item d (sym c.world_in.ensures ∙ c.in_default.is) c.requires.no_module h) c.describe.ensures.describes

pub returns-in_err-index-clause-refused : goal.returns-in_err-index-clause-refused
returns-in_err-index-clause-refused c =
    err-of _
    (keeps-types c.args.state.now c.world.new.state c.world.ensures.types)

pub returns-clause-refused : goal.returns-clause-refused
returns-clause-refused c = err-of c.describe.result (keeps-both c.args.state.now c.write_interface_of.new.state c.describe.new.state (keeps-types c.args.state.now c.write_interface_of.new.state c.in_ok-write_interface_of.ensures.goes.types) (keeps-types c.write_interface_of.new.state c.describe.new.state c.describe.ensures.types))

pub returns-in_err-write_interface_of-clause-refused : goal.returns-in_err-write_interface_of-clause-refused
returns-in_err-write_interface_of-clause-refused c = err-of _ c.in_err-write_interface_of.ensures.refused

pub returns-in_err-index-clause-paid : goal.returns-in_err-index-clause-paid
returns-in_err-index-clause-paid c may ts covers priced =
    exit-room c.args.self.now.types.now c.args.self.now.merged ts (import_type_cost c.args.self.now.types.now (kind_type c.args.item)) c.args.state.now c.world.new.state _ c.from_residual.result c.from_residual.ensures.1
    (λ is. subst (λ (a : AnyType). HasNoRoom c.args.self.now.types.now c.args.self.now.merged ts (import_type_cost c.args.self.now.types.now a) c.args.state.now) (sym (ap kind_type (component-is c.args.item c.in-Some.world (sym c.world_in.ensures ∙ c.in-Some.is)))) (no-room-of c.args.self.now.types.now c.args.self.now.merged ts (world_cost c.args.self.now.types.now c.in-Some.world) c.args.state.now _ is (c.in_err-index.ensures.paid ts (subst (λ (a : AnyType). Covers c.args.self.now.types.now ts a) (ap kind_type (component-is c.args.item c.in-Some.world (sym c.world_in.ensures ∙ c.in-Some.is))) covers) priced)))

pub returns-in-Some-clause-paid : goal.returns-in-Some-clause-paid
returns-in-Some-clause-paid c may ts covers priced =
    subst (λ (a : AnyType). IsPaid c.args.self.now.types.now c.args.self.now.merged ts (import_type_cost c.args.self.now.types.now a) c.args.state.now c.world.new.state) (sym (ap kind_type (component-is c.args.item c.in-Some.world (sym c.world_in.ensures ∙ c.in-Some.is)))) (c.in_ok-index.ensures.paid ts (subst (λ (a : AnyType). Covers c.args.self.now.types.now ts a) (ap kind_type (component-is c.args.item c.in-Some.world (sym c.world_in.ensures ∙ c.in-Some.is))) covers) priced)

pub returns-in_err-write_interface_of-clause-paid : goal.returns-in_err-write_interface_of-clause-paid
returns-in_err-write_interface_of-clause-paid c may ts covers priced =
    exit-room c.args.self.now.types.now c.args.self.now.merged ts (import_type_cost c.args.self.now.types.now (kind_type c.args.item)) c.args.state.now c.write_interface_of.new.state _ c.from_residual-in_err-write_interface_of.result c.from_residual-in_err-write_interface_of.ensures.1
    (λ is. no-room-up-to c.args.self.now.types.now c.args.self.now.merged ts (inside_cost c.args.self.now.types.now (kind_type c.args.item)) (import_type_cost c.args.self.now.types.now (kind_type c.args.item)) c.args.state.now (inside-import c.args.self.now.types.now (kind_type c.args.item)) (no-room-with-more c.args.self.now.types.now c.args.self.now.merged ts (inside_cost c.args.self.now.types.now (kind_type c.args.item)) c.args.state.now (no-room-of c.args.self.now.types.now c.args.self.now.merged [] (inside_cost c.args.self.now.types.now (kind_type c.args.item)) c.args.state.now _ is (c.in_err-write_interface_of.ensures.paid may priced))))

pub returns-clause-paid : goal.returns-clause-paid
returns-clause-paid c may ts covers priced =
    let later = priced-stays c.args.self.now.merged c.args.state.now c.write_interface_of.new.state c.in_ok-write_interface_of.ensures.goes.types priced in
    described-import-paid c.args.self.now.types.now c.args.self.now.merged ts (kind_type c.args.item) c.args.state.now c.write_interface_of.new.state c.describe.new.state c.describe.result (c.in_ok-write_interface_of.ensures.paid may priced) (c.describe.ensures.paid ts covers later)
