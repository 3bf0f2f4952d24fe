use Rattle.std.specs.Prelude.{◌≡◌, ◌+◌, true}
use Rattle.std.proofs.Common.{sym, subst, arith}
use Rattle.wac_types_shapes.specs.declared.shapes.component.ValueType.TheVariants as val
use Rattle.wac_types_shapes.specs.declared.shapes.component.«Type».TheVariants as ty
use Rattle.wac_types_collection.specs.collection.Collection.{Collection, holds_value}
use Rattle.wac_encode_scopes.specs.States.{Goes, IsTypeAt}
use Rattle.wac_encode_scopes.proofs.Stepped.{goes-both, all-both}
use Rattle.wac_encode_values.specs.private.Values.{IsWrittenAs}
use Rattle.wac_encode_values.proofs.Ready.{ready-on}
use Rattle.wac_encode_interfaces.proofs.Written.{on-ok, if-both, goes-as, written-as, ready-as, closed-as, index-at, primitive-ready, primitive-value}
use Rattle.wac_encode_interfaces.proofs.Answered.{exit-room, fault-as, no-room-of, paid-as, primitive-same, same-answer, with-more-answer}
use Rattle.wac_encode_scopes.proofs.Paying.{no-room-up-to, pays-up-to, priced-stays, then-answer}
use Rattle.wac_encode_scopes.specs.Contents.{content_of}
use Rattle.wac_encode_scopes.specs.private.Paid.{primitive_cost}
use Rattle.wac_encode_interfaces.proofs.writer.TypeWriter.value.Goals as goal

pub value_type-requires-clause-closed : goal.value_type-requires-clause-closed
value_type-requires-clause-closed c = closed-as c.args.self.now.types.now c.args.self.now.values.types.now c.args.self.now.closed.now c.args.self.now.values.closed.now c.requires.writer.types c.requires.writer.same_closed c.requires.writer.closed

pub value_type-requires-clause-held : goal.value_type-requires-clause-held
value_type-requires-clause-held c = subst (λ (x : Collection). holds_value x c.args.value ≡ true) (sym c.requires.writer.types) c.requires.held

pub value_type-requires-clause-ready : goal.value_type-requires-clause-ready
value_type-requires-clause-ready c = ready-as c.args.self.now.types.now c.args.self.now.values.types.now c.args.self.now.merged c.args.self.now.values.merged c.args.state.now (ty.Value c.args.value) c.requires.writer.types c.requires.writer.merged c.requires.ready

pub returns-in-Index-clause-goes : goal.returns-in-Index-clause-goes
returns-in-Index-clause-goes c = goes-as c.args.self.now.types.now c.args.self.now.values.types.now c.args.self.now.merged c.args.self.now.values.merged c.args.state.now c.value_type.new.state c.requires.writer.types c.requires.writer.merged c.in_ok-written.ensures.goes

pub returns-in-Index-clause-is : goal.returns-in-Index-clause-is
returns-in-Index-clause-is c =
    let t = c.args.self.now.types.now in
    let b = c.args.self.now.merged in
    let s = c.value_type.new.state in
    index-at t b s c.args.value c.in-Index.index (subst (IsWrittenAs t b s c.args.value) c.in-Index.is (written-as t c.args.self.now.values.types.now b c.args.self.now.values.merged s c.args.value c.in_ok-written.written c.requires.writer.types c.requires.writer.merged c.in_ok-written.ensures.written))

pub primitive-requires : goal.primitive-requires
primitive-requires c =
    let t = c.args.self.now.types.now in
    let b = c.args.self.now.merged in
    let goes = goes-as t c.args.self.now.values.types.now b c.args.self.now.values.merged c.args.state.now c.value_type.new.state c.requires.writer.types c.requires.writer.merged c.in_ok-written.ensures.goes in
    primitive-ready t b c.args.state.now c.value_type.new.state (ty.Value c.args.value) c.in-Primitive.primitive goes c.requires.ready

pub returns-in-Primitive-clause-goes : goal.returns-in-Primitive-clause-goes
returns-in-Primitive-clause-goes c =
    let t = c.args.self.now.types.now in
    let b = c.args.self.now.merged in
    let goes = goes-as t c.args.self.now.values.types.now b c.args.self.now.values.merged c.args.state.now c.value_type.new.state c.requires.writer.types c.requires.writer.merged c.in_ok-written.ensures.goes in
    on-ok c.primitive.result (λ h. goes-both c.step_law.ensures.follows t b c.args.state.now c.value_type.new.state c.primitive.new.state goes h) c.primitive.ensures.goes

pub returns-in-Primitive-clause-is : goal.returns-in-Primitive-clause-is
returns-in-Primitive-clause-is c =
    let t = c.args.self.now.types.now in
    let b = c.args.self.now.merged in
    let s = c.value_type.new.state in
    let u = c.primitive.new.state in
    let p = c.in-Primitive.primitive in
    let goes = goes-as t c.args.self.now.values.types.now b c.args.self.now.values.merged c.args.state.now s c.requires.writer.types c.requires.writer.merged c.in_ok-written.ensures.goes in
    let written = subst (IsWrittenAs t b s c.args.value) c.in-Primitive.is (written-as t c.args.self.now.values.types.now b c.args.self.now.values.merged s c.args.value c.in_ok-written.written c.requires.writer.types c.requires.writer.merged c.in_ok-written.ensures.written) in
    if-both (Goes t b s u) (IsTypeAt t b u (ty.Value (val.Primitive p))) (IsTypeAt t b u (ty.Value c.args.value)) c.primitive.result
    (λ k g h. primitive-value c.bringing_law.ensures.good_once c.step_law.ensures.is_its_tree t b s u (ty.Value c.args.value) c.args.value p k (ready-on t b c.args.state.now s (ty.Value c.args.value) goes c.requires.ready) g written h) c.primitive.ensures.goes c.primitive.ensures.is

pub returns-in-Primitive-clause-types : goal.returns-in-Primitive-clause-types
returns-in-Primitive-clause-types c = all-both c.args.state.now c.value_type.new.state c.primitive.new.state c.value_type.ensures.types c.primitive.ensures.types

pub returns-in_err-written-clause-paid : goal.returns-in_err-written-clause-paid
returns-in_err-written-clause-paid c ts covers priced =
    exit-room c.args.self.now.types.now c.args.self.now.merged ts (primitive_cost (content_of c.args.state.now.here.content)) c.args.state.now c.value_type.new.state _ c.from_residual.result c.from_residual.ensures.1
    (λ is. no-room-up-to c.args.self.now.types.now c.args.self.now.merged ts 0 (primitive_cost (content_of c.args.state.now.here.content)) c.args.state.now (omega arith) (no-room-of c.args.self.now.types.now c.args.self.now.merged ts 0 c.args.state.now _ is (fault-as c.args.self.now.types.now c.args.self.now.values.types.now c.args.self.now.merged c.args.self.now.values.merged (ty.Value c.args.value) 0 c.args.state.now _ c.requires.writer.types c.requires.writer.merged c.in_err-written.ensures.paid ts covers priced)))

pub returns-in-Index-clause-paid : goal.returns-in-Index-clause-paid
returns-in-Index-clause-paid c ts covers priced =
    pays-up-to c.args.self.now.types.now c.args.self.now.merged ts 0 (primitive_cost (content_of c.args.state.now.here.content)) c.args.state.now c.value_type.new.state (omega arith) (paid-as c.args.self.now.types.now c.args.self.now.values.types.now c.args.self.now.merged c.args.self.now.values.merged (ty.Value c.args.value) 0 c.args.state.now c.value_type.new.state c.requires.writer.types c.requires.writer.merged c.in_ok-written.ensures.paid ts covers priced)

pub returns-in-Primitive-clause-paid : goal.returns-in-Primitive-clause-paid
returns-in-Primitive-clause-paid c ts covers priced =
    let first = paid-as c.args.self.now.types.now c.args.self.now.values.types.now c.args.self.now.merged c.args.self.now.values.merged (ty.Value c.args.value) 0 c.args.state.now c.value_type.new.state c.requires.writer.types c.requires.writer.merged c.in_ok-written.ensures.paid ts covers priced in
    let p = primitive_cost (content_of c.value_type.new.state.here.content) in
    same-answer c.args.self.now.types.now c.args.self.now.merged ts (0 + p) (primitive_cost (content_of c.args.state.now.here.content)) c.args.state.now c.primitive.new.state c.primitive.result (primitive-same c.args.state.now c.value_type.new.state c.value_type.ensures.types)
    (then-answer c.args.self.now.types.now c.args.self.now.merged ts 0 p c.args.state.now c.value_type.new.state c.primitive.new.state c.primitive.result first
    (with-more-answer c.args.self.now.types.now c.args.self.now.merged ts p c.value_type.new.state c.primitive.new.state c.primitive.result (c.primitive.ensures.paid (priced-stays c.args.self.now.merged c.args.state.now c.value_type.new.state c.value_type.ensures.types priced))))
