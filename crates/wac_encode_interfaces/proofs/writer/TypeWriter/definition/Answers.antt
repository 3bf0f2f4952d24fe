use Rattle.std.specs.Prelude.{List, Option, None, IfSome, ◌+◌, length}
use Rattle.std.proofs.Common.{subst}
use Rattle.wac_binary.specs.Items.{Decl}
use Rattle.wac_encode_scopes.specs.private.Components.{DefinesComponent}
use Rattle.wac_encode_scopes.specs.States.{Goes}
use Rattle.wac_encode_interfaces.specs.private.Definitions.{IsDefinitionAt}
use Rattle.wac_encode_interfaces.specs.private.Items.{IsTypeIndex}
use Rattle.wac_encode_interfaces.specs.private.Worlds.{written_in}
use Rattle.wac_encode_interfaces.specs.private.Defined.{IsDefinition}
use Rattle.wac_encode_interfaces.proofs.Definitions.{has-definition, plain-ready, plain-at, component-goes, component-at}
use Rattle.wac_encode_interfaces.proofs.Written.{if-ok, ok-of}
use Rattle.wac_encode_scopes.proofs.Stepped.{all-none}
use Rattle.wac_encode_interfaces.proofs.DefinitionCosts.{component-cost, plain-cost, scope-cost}
use Rattle.wac_encode_interfaces.proofs.Answered.{exit-room, no-room-alone, same-answer, up-to-answer, with-more-answer}
use Rattle.std.specs.List.{flat_map}
use Rattle.wac_binary.specs.Bytes.{decl_bytes}
use Rattle.wac_encode_scopes.specs.Contents.{content_of}
use Rattle.wac_encode_scopes.specs.private.Paid.{type_cost}
use Rattle.wac_encode_interfaces.specs.private.Paid.{definition_cost}
use Rattle.wac_encode_interfaces.proofs.writer.TypeWriter.definition.Goals as goal

pub definition_component-requires-clause-ready : goal.definition_component-requires-clause-ready
definition_component-requires-clause-ready c = has-definition c.args.self.now.types.now c.args.self.now.merged (written_in c.args.self.now.worlds.now) c.args.state.now c.args.ty c.requires.ready

pub returns-in-Some-clause-goes : goal.returns-in-Some-clause-goes
returns-in-Some-clause-goes c =
    let t = c.args.self.now.types.now in
    let b = c.args.self.now.merged in
    let is = subst (λ (o : Option (List Decl)). IfSome o (IsDefinition t c.args.ty)) c.in-Some.is c.in_ok-defined.ensures.component in
    ok-of (DefinesComponent b None c.in-Some.component c.args.state.now c.define_component.new.self) (Goes t b c.args.state.now c.define_component.new.self) c.define_component.result
    (λ k h. component-goes t b c.args.ty c.in-Some.component c.args.state.now c.define_component.new.self k is h) c.define_component.ensures.defines

pub returns-in-Some-clause-is : goal.returns-in-Some-clause-is
returns-in-Some-clause-is c =
    let t = c.args.self.now.types.now in
    let b = c.args.self.now.merged in
    let is = subst (λ (o : Option (List Decl)). IfSome o (IsDefinition t c.args.ty)) c.in-Some.is c.in_ok-defined.ensures.component in
    if-ok (DefinesComponent b None c.in-Some.component c.args.state.now c.define_component.new.self) (IsDefinitionAt t b c.define_component.new.self c.args.ty) c.define_component.result
    (λ k h. component-at t b (written_in c.args.self.now.worlds.now) c.args.ty c.in-Some.component c.args.state.now c.define_component.new.self k c.requires.ready is h) c.define_component.ensures.defines

pub type_index-requires-clause-ready : goal.type_index-requires-clause-ready
type_index-requires-clause-ready c = plain-ready c.args.self.now.types.now c.args.self.now.merged (written_in c.args.self.now.worlds.now) c.args.state.now c.args.ty (c.in_ok-defined.ensures.plain c.in-None.is) c.requires.ready

pub returns-in-None-clause-is : goal.returns-in-None-clause-is
returns-in-None-clause-is c =
    let t = c.args.self.now.types.now in
    let b = c.args.self.now.merged in
    if-ok (IsTypeIndex t b c.type_index.new.state c.args.ty) (IsDefinitionAt t b c.type_index.new.state c.args.ty) c.type_index.result
    (λ k h. plain-at c.step_law.ensures.is_its_tree t b c.type_index.new.state c.args.ty k (c.in_ok-defined.ensures.plain c.in-None.is) h) c.type_index.ensures.is

pub returns-in_err-defined-clause-types : goal.returns-in_err-defined-clause-types
returns-in_err-defined-clause-types c = all-none c.args.state.now

pub returns-in_err-defined-clause-paid : goal.returns-in_err-defined-clause-paid
returns-in_err-defined-clause-paid c ts covers priced =
    exit-room c.args.self.now.types.now c.args.self.now.merged ts (definition_cost c.args.self.now.types.now (content_of c.args.state.now.here.content) c.args.ty) c.args.state.now c.args.state.now _ c.from_residual.result c.from_residual.ensures.1
    (λ is. no-room-alone c.args.self.now.types.now c.args.self.now.merged ts (definition_cost c.args.self.now.types.now (content_of c.args.state.now.here.content) c.args.ty) c.args.state.now (scope-cost c.args.self.now.types.now (content_of c.args.state.now.here.content) c.args.ty c.in_err-defined.ensures.scope _ is c.in_err-defined.ensures.small))

pub returns-in-Some-clause-paid : goal.returns-in-Some-clause-paid
returns-in-Some-clause-paid c ts covers priced =
    let is = subst (λ (o : Option (List Decl)). IfSome o (IsDefinition c.args.self.now.types.now c.args.ty)) c.in-Some.is c.in_ok-defined.ensures.component in
    let n = 17 + length (flat_map decl_bytes c.in-Some.component) in
    up-to-answer c.args.self.now.types.now c.args.self.now.merged ts n (definition_cost c.args.self.now.types.now (content_of c.args.state.now.here.content) c.args.ty) c.args.state.now c.define_component.new.self c.define_component.result (component-cost c.args.self.now.types.now (content_of c.args.state.now.here.content) c.args.ty c.in_ok-defined.defined c.in-Some.component c.in-Some.is is.sort c.in_ok-defined.ensures.small)
    (with-more-answer c.args.self.now.types.now c.args.self.now.merged ts n c.args.state.now c.define_component.new.self c.define_component.result (c.define_component.ensures.paid c.args.self.now.types.now c.args.self.now.merged priced))

pub returns-in-None-clause-paid : goal.returns-in-None-clause-paid
returns-in-None-clause-paid c ts covers priced =
    same-answer c.args.self.now.types.now c.args.self.now.merged ts (type_cost c.args.self.now.types.now (content_of c.args.state.now.here.content) c.args.ty) (definition_cost c.args.self.now.types.now (content_of c.args.state.now.here.content) c.args.ty) c.args.state.now c.type_index.new.state c.type_index.result (plain-cost c.args.self.now.types.now (content_of c.args.state.now.here.content) c.args.ty (c.in_ok-defined.ensures.plain c.in-None.is))
    (c.type_index.ensures.paid ts covers priced)
