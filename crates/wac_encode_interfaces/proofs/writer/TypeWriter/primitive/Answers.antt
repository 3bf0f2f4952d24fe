use Rattle.wac_types_shapes.specs.declared.shapes.component.ValueType.TheVariants as val
use Rattle.wac_types_shapes.specs.declared.shapes.component.«Type».TheVariants as ty
use Rattle.wac_encode_scopes.specs.States.{Goes, IsTypeAt}
use Rattle.wac_encode_scopes.specs.private.Components.{DefinesPrimitiveType}
use Rattle.wac_encode_scopes.proofs.Stepped.{goes-none, all-none}
use Rattle.wac_encode_interfaces.proofs.Written.{if-ok, ok-of, indexed-at, primitive-goes, primitive-at}
use Rattle.wac_encode_interfaces.proofs.Answered.{pays-any}
use Rattle.wac_encode_scopes.specs.Contents.{content_of}
use Rattle.wac_encode_scopes.specs.private.Paid.{primitive_cost}
use Rattle.std.specs.Prelude.{[]}
use Rattle.wac_encode_interfaces.proofs.writer.TypeWriter.primitive.Goals as goal

pub returns-in-Some-clause-goes : goal.returns-in-Some-clause-goes
returns-in-Some-clause-goes c = goes-none c.still_law.ensures c.args.self.now.merged c.args.state.now c.args.self.now.types.now

pub returns-in-Some-clause-is : goal.returns-in-Some-clause-is
returns-in-Some-clause-is c = indexed-at c.step_law.ensures.stands_recorded c.args.self.now.types.now c.args.self.now.merged c.args.state.now (ty.Value (val.Primitive c.args.primitive)) c.index.result c.in-Some.index c.in-Some.is c.index.ensures.some

pub returns-in-None-clause-goes : goal.returns-in-None-clause-goes
returns-in-None-clause-goes c =
    let t = c.args.self.now.types.now in
    let b = c.args.self.now.merged in
    ok-of (DefinesPrimitiveType c.args.primitive c.args.state.now c.define_primitive.new.self) (Goes t b c.args.state.now c.define_primitive.new.self) c.define_primitive.result
    (λ k h. primitive-goes t b c.args.primitive c.args.state.now c.define_primitive.new.self k h) c.define_primitive.ensures.defines

pub returns-in-None-clause-is : goal.returns-in-None-clause-is
returns-in-None-clause-is c =
    let t = c.args.self.now.types.now in
    let b = c.args.self.now.merged in
    let a = ty.Value (val.Primitive c.args.primitive) in
    if-ok (DefinesPrimitiveType c.args.primitive c.args.state.now c.define_primitive.new.self) (IsTypeAt t b c.define_primitive.new.self a) c.define_primitive.result
    (λ k h. primitive-at t b c.args.primitive a c.args.state.now c.define_primitive.new.self k c.requires h) c.define_primitive.ensures.defines

pub returns-in-Some-clause-types : goal.returns-in-Some-clause-types
returns-in-Some-clause-types c = all-none c.args.state.now

pub returns-in-Some-clause-paid : goal.returns-in-Some-clause-paid
returns-in-Some-clause-paid c priced =
    pays-any c.args.self.now.types.now c.args.self.now.merged [] (primitive_cost (content_of c.args.state.now.here.content)) c.args.state.now

pub returns-in-None-clause-paid : goal.returns-in-None-clause-paid
returns-in-None-clause-paid c priced =
    c.define_primitive.ensures.paid c.args.self.now.types.now c.args.self.now.merged priced
