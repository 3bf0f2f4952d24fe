use Rattle.std.specs.Prelude.{length, ◌+◌, ◌*◌, ◌^◌, ◌≤◌}
use Rattle.std.proofs.Common.{sym, subst, ap}
use Rattle.wac_types_shapes.specs.declared.shapes.component.«Type».{«Type» as AnyType}
use Rattle.wac_types_collection.proofs.lemmas.collection.Steady.{within}
use Rattle.wac_encode_interfaces.specs.private.Worlds.{written_in}
use Rattle.wac_encode_interfaces.specs.private.Defined.{HasDefinition, IsDefinition}
use Rattle.wac_encode_interfaces.proofs.Definitions.{interface-is, is-plain}
use Rattle.wac_encode_interfaces.proofs.DefinitionCosts.{exit-component, sized-large}
use Rattle.std.specs.List.{flat_map}
use Rattle.wac_types_shapes.specs.declared.shapes.component.«Type».TheVariants as ty
use Rattle.wac_types_weight.specs.Weight.{is_scope, weight}
use Rattle.wac_binary.specs.Bytes.{decl_bytes}
use Rattle.wac_encode_interfaces.proofs.Refused.{err-of}
use Rattle.wac_encode_interfaces.proofs.writer.TypeWriter.definition_component.Goals as goal

pub interface_definition-requires-clause-held : goal.interface_definition-requires-clause-held
interface_definition-requires-clause-held c =
    let ready = subst (HasDefinition c.args.self.now.types.now (written_in c.args.self.now.worlds.now)) c.in-Interface.is c.requires.ready in
    within c.in-Interface.id.0 (length c.args.self.now.types.now.interfaces) ready.held

pub interface_definition-requires-clause-clean : goal.interface_definition-requires-clause-clean
interface_definition-requires-clause-clean c =
    let ready = subst (HasDefinition c.args.self.now.types.now (written_in c.args.self.now.worlds.now)) c.in-Interface.is c.requires.ready in
    ready.clean

pub interface_definition-requires-clause-worlds : goal.interface_definition-requires-clause-worlds
interface_definition-requires-clause-worlds c =
    let ready = subst (HasDefinition c.args.self.now.types.now (written_in c.args.self.now.worlds.now)) c.in-Interface.is c.requires.ready in
    ready.worlds

pub world_definition-requires-clause-ready : goal.world_definition-requires-clause-ready
world_definition-requires-clause-ready c = subst (HasDefinition c.args.self.now.types.now (written_in c.args.self.now.worlds.now)) c.in-World.is c.requires.ready

pub returns-in_ok-component-in-Interface-clause-component : goal.returns-in_ok-component-in-Interface-clause-component
returns-in_ok-component-in-Interface-clause-component c =
    let t = c.args.self.now.types.now in
    let made = c.in_ok-component-in-Interface in
    subst (λ (a : AnyType). IsDefinition t a made.component) (sym c.in-Interface.is) (interface-is t c.in-Interface.id made.component made.ensures.is)

pub returns-in_ok-component-in-World-clause-component : goal.returns-in_ok-component-in-World-clause-component
returns-in_ok-component-in-World-clause-component c =
    let t = c.args.self.now.types.now in
    let made = c.in_ok-component-in-World in
    subst (λ (a : AnyType). IsDefinition t a made.component) (sym c.in-World.is) made.ensures.is

pub returns-in_default-clause-plain : goal.returns-in_default-clause-plain
returns-in_default-clause-plain c = λ none. is-plain c.args.ty c.in_default.not-Interface c.in_default.not-World

pub returns-in_err-component-in-Interface-clause-small : goal.returns-in_err-component-in-Interface-clause-small
returns-in_err-component-in-Interface-clause-small c =
    exit-component (64 * weight c.args.self.now.types.now c.args.ty) _ c.from_residual.result c.from_residual.ensures.1
    (λ is. subst (λ (a : AnyType). 2 ^ 32 ≤ 64 * weight c.args.self.now.types.now a) (sym c.in-Interface.is) (sized-large 17 (64 * weight c.args.self.now.types.now (ty.Interface c.in-Interface.id)) _ is c.in_err-component-in-Interface.ensures.small))

pub returns-in_ok-component-in-Interface-clause-small : goal.returns-in_ok-component-in-Interface-clause-small
returns-in_ok-component-in-Interface-clause-small c =
    subst (λ (a : AnyType). 17 + length (flat_map decl_bytes c.in_ok-component-in-Interface.component) ≤ 64 * weight c.args.self.now.types.now a) (sym c.in-Interface.is) c.in_ok-component-in-Interface.ensures.small

pub returns-in_err-component-in-Interface-clause-scope : goal.returns-in_err-component-in-Interface-clause-scope
returns-in_err-component-in-Interface-clause-scope c =
    err-of c.from_residual.result (ap is_scope c.in-Interface.is)

pub returns-in_err-component-in-World-clause-small : goal.returns-in_err-component-in-World-clause-small
returns-in_err-component-in-World-clause-small c =
    exit-component (64 * weight c.args.self.now.types.now c.args.ty) _ c.from_residual-in_err-component-in-World.result c.from_residual-in_err-component-in-World.ensures.1
    (λ is. subst (λ (a : AnyType). 2 ^ 32 ≤ 64 * weight c.args.self.now.types.now a) (sym c.in-World.is) (sized-large 17 (64 * weight c.args.self.now.types.now (ty.World c.in-World.id)) _ is c.in_err-component-in-World.ensures.small))

pub returns-in_ok-component-in-World-clause-small : goal.returns-in_ok-component-in-World-clause-small
returns-in_ok-component-in-World-clause-small c =
    subst (λ (a : AnyType). 17 + length (flat_map decl_bytes c.in_ok-component-in-World.component) ≤ 64 * weight c.args.self.now.types.now a) (sym c.in-World.is) c.in_ok-component-in-World.ensures.small

pub returns-in_err-component-in-World-clause-scope : goal.returns-in_err-component-in-World-clause-scope
returns-in_err-component-in-World-clause-scope c =
    err-of c.from_residual-in_err-component-in-World.result (ap is_scope c.in-World.is)
