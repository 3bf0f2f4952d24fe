use Rattle.std.specs.Prelude.{length}
use Rattle.std.proofs.Common.{sym, subst, ap}
use Rattle.wac_types_shapes.specs.declared.shapes.component.ItemKind.TheVariants as kind
use Rattle.wac_types_shapes.specs.declared.shapes.component.«Type».{«Type» as AnyType}
use Rattle.wac_types_shapes.specs.declared.shapes.component.«Type».TheVariants as ty
use Rattle.wac_types_collection.specs.collection.Collection.{Collection, HasFunc}
use Rattle.wac_types_collection.proofs.lemmas.collection.Steady.{within}
use Rattle.wac_encode_scopes.specs.States.{IsTypeAt, IsResourceAt}
use Rattle.wac_encode_scopes.proofs.Stepped.{goes-none, all-none}
use Rattle.wac_encode_interfaces.specs.private.Items.{IsItemReady, IsTypeIndex}
use Rattle.wac_encode_interfaces.specs.private.Worlds.{written_in}
use Rattle.wac_encode_interfaces.proofs.Written.{on-ok, if-ok, goes-as, type-as, ready-as, closed-as, indexed-at, resource-bound, resource-index, has-index, no-module}
use Rattle.wac_encode_interfaces.proofs.Answered.{paid-for-as, pays-any, same-answer}
use Rattle.wac_types_weight.specs.private.Laws.{Covers}
use Rattle.wac_encode_scopes.specs.Contents.{content_of}
use Rattle.wac_encode_scopes.specs.private.Paid.{primitive_cost, type_cost, world_cost}
use Rattle.wac_encode_values.proofs.Covered.{end-own}
use Rattle.wac_types_shapes.specs.declared.shapes.component.ResourceId.{ResourceId}
use Rattle.wac_encode_interfaces.proofs.writer.TypeWriter.type_index.Goals as goal

pub bring_resource-requires : goal.bring_resource-requires
bring_resource-requires c =
    let ready = subst (λ (a : AnyType). IsItemReady c.args.self.now.types.now c.args.self.now.merged (written_in c.args.self.now.worlds.now) c.args.state.now (kind.TypeItem a)) c.in-Resource.is c.requires.ready in
    resource-bound c.part_law.ensures.resource_is_bound c.args.self.now.types.now c.args.self.now.merged c.args.state.now c.in-Resource.id c.resolve_resource-end.result c.resolve_resource-end.ensures.end ready.ready

pub returns-in-Resource-clause-goes : goal.returns-in-Resource-clause-goes
returns-in-Resource-clause-goes c = on-ok c.bring_resource.result (λ h. h c.args.self.now.types.now) c.bring_resource.ensures.goes

pub returns-in-Resource-clause-is : goal.returns-in-Resource-clause-is
returns-in-Resource-clause-is c =
    let t = c.args.self.now.types.now in
    let b = c.args.self.now.merged in
    let s = c.bring_resource.new.self in
    if-ok (IsResourceAt b s c.resolve_resource-end.result) (IsTypeIndex t b s c.args.ty) c.bring_resource.result
    (λ k h. subst (λ (a : AnyType). IsTypeIndex t b s a k) (sym c.in-Resource.is) (resource-index t b s c.in-Resource.id c.resolve_resource-end.result k c.resolve_resource-end.ensures.end h)) c.bring_resource.ensures.is

pub value-requires-clause-held : goal.value-requires-clause-held
value-requires-clause-held c =
    let ready = subst (λ (a : AnyType). IsItemReady c.args.self.now.types.now c.args.self.now.merged (written_in c.args.self.now.worlds.now) c.args.state.now (kind.TypeItem a)) c.in-Value.is c.requires.ready in
    ready.held

pub value-requires-clause-ready : goal.value-requires-clause-ready
value-requires-clause-ready c =
    let ready = subst (λ (a : AnyType). IsItemReady c.args.self.now.types.now c.args.self.now.merged (written_in c.args.self.now.worlds.now) c.args.state.now (kind.TypeItem a)) c.in-Value.is c.requires.ready in
    ready.ready

pub returns-in-Value-clause-is : goal.returns-in-Value-clause-is
returns-in-Value-clause-is c =
    let t = c.args.self.now.types.now in
    let b = c.args.self.now.merged in
    let s = c.value.new.state in
    if-ok (IsTypeAt t b s (ty.Value c.in-Value.value)) (IsTypeIndex t b s c.args.ty) c.value.result
    (λ k h. subst (λ (a : AnyType). IsTypeIndex t b s a k) (sym c.in-Value.is) h) c.value.ensures.is

pub func-requires-clause-closed : goal.func-requires-clause-closed
func-requires-clause-closed c = closed-as c.args.self.now.types.now c.args.self.now.values.types.now c.args.self.now.closed.now c.args.self.now.values.closed.now c.requires.writer.types c.requires.writer.same_closed c.requires.writer.closed

pub func-requires-clause-held : goal.func-requires-clause-held
func-requires-clause-held c =
    let ready = subst (λ (a : AnyType). IsItemReady c.args.self.now.types.now c.args.self.now.merged (written_in c.args.self.now.worlds.now) c.args.state.now (kind.TypeItem a)) c.in-Func.is c.requires.ready in
    subst (λ (x : Collection). HasFunc x c.in-Func.id) (sym c.requires.writer.types) (within c.in-Func.id.0 (length c.args.self.now.types.now.funcs) ready.held)

pub func-requires-clause-ready : goal.func-requires-clause-ready
func-requires-clause-ready c =
    let ready = subst (λ (a : AnyType). IsItemReady c.args.self.now.types.now c.args.self.now.merged (written_in c.args.self.now.worlds.now) c.args.state.now (kind.TypeItem a)) c.in-Func.is c.requires.ready in
    ready-as c.args.self.now.types.now c.args.self.now.values.types.now c.args.self.now.merged c.args.self.now.values.merged c.args.state.now (ty.Func c.in-Func.id) c.requires.writer.types c.requires.writer.merged ready.ready

pub returns-in-Func-clause-goes : goal.returns-in-Func-clause-goes
returns-in-Func-clause-goes c = on-ok c.func.result (goes-as c.args.self.now.types.now c.args.self.now.values.types.now c.args.self.now.merged c.args.self.now.values.merged c.args.state.now c.func.new.state c.requires.writer.types c.requires.writer.merged) c.func.ensures.goes

pub returns-in-Func-clause-is : goal.returns-in-Func-clause-is
returns-in-Func-clause-is c =
    let t = c.args.self.now.types.now in
    let b = c.args.self.now.merged in
    let s = c.func.new.state in
    let d = c.args.self.now.values.types.now in
    let a = c.args.self.now.values.merged in
    if-ok (IsTypeAt d a s (ty.Func c.in-Func.id)) (IsTypeIndex t b s c.args.ty) c.func.result
    (λ k h. subst (λ (x : AnyType). IsTypeIndex t b s x k) (sym c.in-Func.is) (type-as t d b a s (ty.Func c.in-Func.id) k c.requires.writer.types c.requires.writer.merged h)) c.func.ensures.is

pub world-requires-clause-written : goal.world-requires-clause-written
world-requires-clause-written c =
    let ready = subst (λ (a : AnyType). IsItemReady c.args.self.now.types.now c.args.self.now.merged (written_in c.args.self.now.worlds.now) c.args.state.now (kind.TypeItem a)) c.in-World.is c.requires.ready in
    ready.worlds

pub returns-in-World-clause-is : goal.returns-in-World-clause-is
returns-in-World-clause-is c =
    let t = c.args.self.now.types.now in
    let b = c.args.self.now.merged in
    let s = c.world.new.state in
    if-ok (IsTypeAt t b s (ty.World c.in-World.id)) (IsTypeIndex t b s c.args.ty) c.world.result
    (λ k h. subst (λ (a : AnyType). IsTypeIndex t b s a k) (sym c.in-World.is) h) c.world.ensures.is

pub returns-in-Some-clause-goes : goal.returns-in-Some-clause-goes
returns-in-Some-clause-goes c = goes-none c.still_law.ensures c.args.self.now.merged c.args.state.now c.args.self.now.types.now

pub returns-in-Some-clause-is : goal.returns-in-Some-clause-is
returns-in-Some-clause-is c =
    let t = c.args.self.now.types.now in
    let b = c.args.self.now.merged in
    subst (λ (a : AnyType). IsTypeIndex t b c.args.state.now a c.in-Some.index) (sym c.in-Interface.is) (indexed-at c.step_law.ensures.stands_recorded t b c.args.state.now (ty.Interface c.in-Interface.id) c.index.result c.in-Some.index c.in-Some.is c.index.ensures.some)

pub unreachable-requires : goal.unreachable-requires
unreachable-requires c =
    let ready = subst (λ (a : AnyType). IsItemReady c.args.self.now.types.now c.args.self.now.merged (written_in c.args.self.now.worlds.now) c.args.state.now (kind.TypeItem a)) c.in-Interface.is c.requires.ready in
    has-index c.args.self.now.merged c.args.state.now (ty.Interface c.in-Interface.id) (c.index.ensures.none c.in-None.is) ready.interface

pub unreachable-requires-in-Module : goal.unreachable-requires-in-Module
unreachable-requires-in-Module c = no-module c.args.ty c.in-Module.field-0 c.in-Module.is c.requires.ready.writable

pub returns-in-Some-clause-types : goal.returns-in-Some-clause-types
returns-in-Some-clause-types c = all-none c.args.state.now

pub returns-in-Resource-clause-paid : goal.returns-in-Resource-clause-paid
returns-in-Resource-clause-paid c ts covers priced =
    let ready = subst (λ (a : AnyType). IsItemReady c.args.self.now.types.now c.args.self.now.merged (written_in c.args.self.now.worlds.now) c.args.state.now (kind.TypeItem a)) c.in-Resource.is c.requires.ready in
    let end = c.resolve_resource-end.result in
    let there = subst (λ (r : ResourceId). Covers c.args.self.now.types.now ts (ty.Resource r)) (sym c.resolve_resource-end.ensures.end) (c.weight_law.ensures.covers_resource c.args.self.now.types.now ts c.in-Resource.id (subst (Covers c.args.self.now.types.now ts) c.in-Resource.is covers)) in
    same-answer c.args.self.now.types.now c.args.self.now.merged ts 0 (type_cost c.args.self.now.types.now (content_of c.args.state.now.here.content) c.args.ty) c.args.state.now c.bring_resource.new.self c.bring_resource.result (sym (ap (type_cost c.args.self.now.types.now (content_of c.args.state.now.here.content)) c.in-Resource.is))
    (c.bring_resource.ensures.paid c.args.self.now.types.now (end-own c.args.self.now.types.now c.in-Resource.id end c.resolve_resource-end.ensures.held ready.held c.resolve_resource-end.ensures.no_alias) ts there priced)

pub returns-in-Value-clause-paid : goal.returns-in-Value-clause-paid
returns-in-Value-clause-paid c ts covers priced =
    same-answer c.args.self.now.types.now c.args.self.now.merged ts (primitive_cost (content_of c.args.state.now.here.content)) (type_cost c.args.self.now.types.now (content_of c.args.state.now.here.content) c.args.ty) c.args.state.now c.value.new.state c.value.result (sym (ap (type_cost c.args.self.now.types.now (content_of c.args.state.now.here.content)) c.in-Value.is))
    (c.value.ensures.paid ts (subst (Covers c.args.self.now.types.now ts) c.in-Value.is covers) priced)

pub returns-in-Func-clause-paid : goal.returns-in-Func-clause-paid
returns-in-Func-clause-paid c ts covers priced =
    same-answer c.args.self.now.types.now c.args.self.now.merged ts 0 (type_cost c.args.self.now.types.now (content_of c.args.state.now.here.content) c.args.ty) c.args.state.now c.func.new.state c.func.result (sym (ap (type_cost c.args.self.now.types.now (content_of c.args.state.now.here.content)) c.in-Func.is))
    (paid-for-as c.args.self.now.types.now c.args.self.now.values.types.now c.args.self.now.merged c.args.self.now.values.merged (ty.Func c.in-Func.id) 0 c.args.state.now c.func.new.state c.func.result c.requires.writer.types c.requires.writer.merged c.func.ensures.paid ts (subst (Covers c.args.self.now.types.now ts) c.in-Func.is covers) priced)

pub returns-in-World-clause-paid : goal.returns-in-World-clause-paid
returns-in-World-clause-paid c ts covers priced =
    same-answer c.args.self.now.types.now c.args.self.now.merged ts (world_cost c.args.self.now.types.now c.in-World.id) (type_cost c.args.self.now.types.now (content_of c.args.state.now.here.content) c.args.ty) c.args.state.now c.world.new.state c.world.result (sym (ap (type_cost c.args.self.now.types.now (content_of c.args.state.now.here.content)) c.in-World.is))
    (c.world.ensures.paid ts (subst (Covers c.args.self.now.types.now ts) c.in-World.is covers) priced)

pub returns-in-Some-clause-paid : goal.returns-in-Some-clause-paid
returns-in-Some-clause-paid c ts covers priced =
    pays-any c.args.self.now.types.now c.args.self.now.merged ts (type_cost c.args.self.now.types.now (content_of c.args.state.now.here.content) c.args.ty) c.args.state.now
