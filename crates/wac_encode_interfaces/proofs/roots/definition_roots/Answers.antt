use Rattle.std.specs.Prelude.{length}
use Rattle.std.proofs.Common.{◌≡◌, true, sym, subst, refl}
use Rattle.std.proofs.lemmas.Result.{IfOk-weaker}
use Rattle.wac_types_shapes.specs.declared.shapes.component.«Type».{«Type» as AnyType}
use Rattle.wac_types_shapes.specs.declared.shapes.component.«Type».TheVariants as ty
use Rattle.wac_types_collection.specs.collection.Collection.{holds_type}
use Rattle.wac_types_collection.proofs.lemmas.collection.Steady.{within}
use Rattle.wac_encode_faults.specs.Sides.{interface_sides, completed_sides}
use Rattle.wac_encode_interfaces.specs.private.Definitions.{AreDefinitionRoots}
use Rattle.wac_encode_interfaces.proofs.DefinedSides.{world-defined, definition-roots, no-roots, no-sides}
use Rattle.wac_encode_interfaces.specs.private.Paid.{AreLight}
use Rattle.wac_encode_interfaces.proofs.RootWeights.{none-light}
use Rattle.wac_encode_interfaces.proofs.Writes.{item-held}
use Rattle.wac_encode_interfaces.proofs.roots.definition_roots.Goals as goal

pub interface_roots-requires : goal.interface_roots-requires
interface_roots-requires c = within c.in-Interface.id.0 (length c.args.types.now.interfaces) (subst (λ (a : AnyType). holds_type c.args.types.now a ≡ true) c.in-Interface.is c.requires)

pub returns-in-Interface-clause-roots : goal.returns-in-Interface-clause-roots
returns-in-Interface-clause-roots c =
    let t = c.args.types.now in
    let a = ty.Interface c.in-Interface.id in
    IfOk-weaker c.interface_roots.result _ _
    (λ v are. subst (λ (x : AnyType). AreDefinitionRoots t x v.items) (sym c.in-Interface.is) (definition-roots t a v.items are (interface_sides t c.in-Interface.id) refl)) c.interface_roots.ensures.roots

pub world_roots-requires : goal.world_roots-requires
world_roots-requires c = subst (λ (a : AnyType). holds_type c.args.types.now a ≡ true) c.in-World.is c.requires

pub returns-in-World-clause-roots : goal.returns-in-World-clause-roots
returns-in-World-clause-roots c =
    let t = c.args.types.now in
    let a = ty.World c.in-World.id in
    let (x, at) = item-held t.worlds c.in-World.id.0 (subst (λ (z : AnyType). holds_type t z ≡ true) c.in-World.is c.requires) in
    IfOk-weaker c.world_roots.result _ _
    (λ v are. subst (λ (z : AnyType). AreDefinitionRoots t z v.items) (sym c.in-World.is) (definition-roots t a v.items are (completed_sides t x) (world-defined t c.in-World.id x at))) c.world_roots.ensures.roots

pub returns-in_default-clause-roots : goal.returns-in_default-clause-roots
returns-in_default-clause-roots c = no-roots c.args.types.now c.args.ty c.new.result.items c.new.ensures.items (no-sides c.args.types.now c.args.ty c.in_default.not-Interface c.in_default.not-World)

pub returns-in-Interface-clause-light : goal.returns-in-Interface-clause-light
returns-in-Interface-clause-light c = IfOk-weaker c.interface_roots.result _ _ (λ v light. subst (λ (a : AnyType). AreLight c.args.types.now a v.items) (sym c.in-Interface.is) light) c.interface_roots.ensures.light

pub returns-in-World-clause-light : goal.returns-in-World-clause-light
returns-in-World-clause-light c = IfOk-weaker c.world_roots.result _ _ (λ v light. subst (λ (a : AnyType). AreLight c.args.types.now a v.items) (sym c.in-World.is) light) c.world_roots.ensures.light

pub returns-in_default-clause-light : goal.returns-in_default-clause-light
returns-in_default-clause-light c = none-light c.args.types.now c.args.ty c.new.result.items c.new.ensures.items
