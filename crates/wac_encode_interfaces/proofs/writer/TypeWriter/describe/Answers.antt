use Rattle.std.proofs.Common.{sym, subst, ap, ℕ}
use Rattle.wac_types_shapes.specs.declared.shapes.component.ItemKind.TheVariants as kind
use Rattle.wac_types_shapes.specs.declared.shapes.component.«Type».{«Type» as AnyType}
use Rattle.wac_encode_interfaces.specs.private.Items.{IsItemReady}
use Rattle.wac_encode_interfaces.specs.private.Worlds.{written_in}
use Rattle.wac_encode_interfaces.proofs.Written.{type-ready, describes-type, describes-func, describes-instance, no-component, no-core, no-value}
use Rattle.wac_encode_interfaces.proofs.Answered.{exit-room, no-room-of}
use Rattle.wac_types_shapes.specs.shapes.Kinds.{kind_type}
use Rattle.wac_types_weight.specs.private.Laws.{Covers}
use Rattle.wac_encode_scopes.specs.Contents.{content_of}
use Rattle.wac_encode_scopes.specs.private.Paid.{HasNoRoom, IsPaid, type_cost}
use Rattle.wac_encode_interfaces.proofs.writer.TypeWriter.describe.Goals as goal

pub type_index-requires-clause-ready : goal.type_index-requires-clause-ready
type_index-requires-clause-ready c =
    let t = c.args.self.now.types.now in
    let b = c.args.self.now.merged in
    let ws = written_in c.args.self.now.worlds.now in
    subst (λ (a : AnyType). IsItemReady t b ws c.args.state.now (kind.TypeItem a)) (sym c.ty-ty.ensures) (type-ready t b ws c.args.state.now c.args.item c.requires.ready)

pub returns-in-TypeItem-clause-describes : goal.returns-in-TypeItem-clause-describes
returns-in-TypeItem-clause-describes c = describes-type c.args.self.now.types.now c.args.self.now.merged c.type_index.new.state c.args.item c.ty-ty.result c.in-TypeItem.field-0 c.in_ok-index.index c.in-TypeItem.is c.ty-ty.ensures c.in_ok-index.ensures.is

pub returns-in-Func-clause-describes : goal.returns-in-Func-clause-describes
returns-in-Func-clause-describes c = describes-func c.args.self.now.types.now c.args.self.now.merged c.type_index.new.state c.args.item c.ty-ty.result c.in-Func.field-0 c.in_ok-index.index c.in-Func.is c.ty-ty.ensures c.in_ok-index.ensures.is

pub returns-in-Instance-clause-describes : goal.returns-in-Instance-clause-describes
returns-in-Instance-clause-describes c = describes-instance c.args.self.now.types.now c.args.self.now.merged c.type_index.new.state c.args.item c.ty-ty.result c.in-Instance.field-0 c.in_ok-index.index c.in-Instance.is c.ty-ty.ensures c.in_ok-index.ensures.is

pub unreachable-requires : goal.unreachable-requires
unreachable-requires c = no-component c.args.item c.in-Component.field-0 c.in-Component.is c.requires.ready.writable

pub unreachable-requires-in-Module : goal.unreachable-requires-in-Module
unreachable-requires-in-Module c = no-core c.args.item c.in-Module.field-0 c.in-Module.is c.requires.ready.writable

pub unreachable-requires-in-Value : goal.unreachable-requires-in-Value
unreachable-requires-in-Value c = no-value c.args.item c.in-Value.field-0 c.in-Value.is c.requires.ready.writable

pub returns-in_err-index-clause-paid : goal.returns-in_err-index-clause-paid
returns-in_err-index-clause-paid c ts covers priced =
    exit-room c.args.self.now.types.now c.args.self.now.merged ts (type_cost c.args.self.now.types.now (content_of c.args.state.now.here.content) (kind_type c.args.item)) c.args.state.now c.type_index.new.state _ c.from_residual.result c.from_residual.ensures.1
    (λ is. subst (λ (z : ℕ). HasNoRoom c.args.self.now.types.now c.args.self.now.merged ts z c.args.state.now) (ap (type_cost c.args.self.now.types.now (content_of c.args.state.now.here.content)) c.ty-ty.ensures) (no-room-of c.args.self.now.types.now c.args.self.now.merged ts (type_cost c.args.self.now.types.now (content_of c.args.state.now.here.content) c.ty-ty.result) c.args.state.now _ is (c.in_err-index.ensures.paid ts (subst (Covers c.args.self.now.types.now ts) (sym c.ty-ty.ensures) covers) priced)))

pub returns-in-TypeItem-clause-paid : goal.returns-in-TypeItem-clause-paid
returns-in-TypeItem-clause-paid c ts covers priced =
    subst (λ (z : ℕ). IsPaid c.args.self.now.types.now c.args.self.now.merged ts z c.args.state.now c.type_index.new.state) (ap (type_cost c.args.self.now.types.now (content_of c.args.state.now.here.content)) c.ty-ty.ensures) (c.in_ok-index.ensures.paid ts (subst (Covers c.args.self.now.types.now ts) (sym c.ty-ty.ensures) covers) priced)

pub returns-in-Func-clause-paid : goal.returns-in-Func-clause-paid
returns-in-Func-clause-paid c ts covers priced =
    subst (λ (z : ℕ). IsPaid c.args.self.now.types.now c.args.self.now.merged ts z c.args.state.now c.type_index.new.state) (ap (type_cost c.args.self.now.types.now (content_of c.args.state.now.here.content)) c.ty-ty.ensures) (c.in_ok-index.ensures.paid ts (subst (Covers c.args.self.now.types.now ts) (sym c.ty-ty.ensures) covers) priced)

pub returns-in-Instance-clause-paid : goal.returns-in-Instance-clause-paid
returns-in-Instance-clause-paid c ts covers priced =
    subst (λ (z : ℕ). IsPaid c.args.self.now.types.now c.args.self.now.merged ts z c.args.state.now c.type_index.new.state) (ap (type_cost c.args.self.now.types.now (content_of c.args.state.now.here.content)) c.ty-ty.ensures) (c.in_ok-index.ensures.paid ts (subst (Covers c.args.self.now.types.now ts) (sym c.ty-ty.ensures) covers) priced)
