-- Laws of the trees of types of a collection.
use Rattle.std.specs.Prelude.{ℕ, ◌≡◌, ◌<◌, true, Some}
use Rattle.wac_types_collection.specs.collection.Collection.{Collection, size, holds_type, with_resource, with_func, with_defined, with_interface, with_world, with_module}
use Rattle.wac_types_collection.specs.collection.Held.{Naming, Names, step, unfolded, unfolded_to}
use Rattle.wac_types_collection.specs.collection.Bound.{Bindings, held_tree}
use Rattle.wac_types_collection.specs.subtyping.Subtype.{type_tree}
use Rattle.wac_types_collection.specs.collection.Aliases.{target_of}
use Rattle.wac_types_collection.specs.subtyping.Called.{Called, by_binding}
use Rattle.wac_types_shapes.specs.declared.shapes.component.Resource.{Resource}
use Rattle.wac_types_shapes.specs.declared.shapes.component.FuncType.{FuncType}
use Rattle.wac_types_shapes.specs.declared.shapes.component.DefinedType.{DefinedType}
use Rattle.wac_types_shapes.specs.declared.shapes.component.Interface.{Interface}
use Rattle.wac_types_shapes.specs.declared.shapes.component.World.{World}
use Rattle.wac_types_shapes.specs.declared.shapes.core_types.ModuleType.{ModuleType}
use Rattle.wac_types_shapes.specs.declared.shapes.component.ValueType.{ValueType}
use Rattle.wac_types_shapes.specs.declared.shapes.component.«Type».{«Type» as AnyType}
use Rattle.wac_types_shapes.specs.declared.shapes.component.«Type».TheVariants as ty

-- Unfolding a type deeper than the number of items does not change its tree.
abbrev pub IsDeepEnough : {L : Type 0} → Naming L → Collection → Type 0
IsDeepEnough naming c = (n : ℕ) → size c < n → (m : Names _) (t : AnyType) → holds_type c t ≡ true → unfolded_to naming c n m t ≡ unfolded naming c m t

-- The tree of a type consists of the trees of the types that it mentions.
abbrev pub UnfoldsByParts : {L : Type 0} → Naming L → Collection → Type 0
UnfoldsByParts naming c = (m : Names _) (t : AnyType) → holds_type c t ≡ true → unfolded naming c m t ≡ step naming c (unfolded naming c) m t

-- An alias has the trees of its target.
abbrev pub AliasesAgree : Collection → Type 0
AliasesAgree c = (v w : ValueType) → target_of c v ≡ Some w →
    (type_tree c (ty.Value v) ≡ type_tree c (ty.Value w))
    × ((m : Bindings) → held_tree c m (ty.Value v) ≡ held_tree c m (ty.Value w))
    × ((m : Names Called) → unfolded (by_binding c) c m (ty.Value v) ≡ unfolded (by_binding c) c m (ty.Value w))

-- Each type of the first collection has the same trees in the second.
abbrev pub KeepsTrees : Collection → Collection → Type 0
KeepsTrees c d = ((t : AnyType) → holds_type c t ≡ true → type_tree d t ≡ type_tree c t) × ((m : Bindings) (t : AnyType) → holds_type c t ≡ true → held_tree d m t ≡ held_tree c m t)

-- The trees of a collection's types do not change when an item is added.
pub record GrowthKeepsTrees (c : Collection) : Type 0 where
  pub resource : (x : Resource) → KeepsTrees c (with_resource c x)
  pub func : (x : FuncType) → KeepsTrees c (with_func c x)
  pub defined : (x : DefinedType) → KeepsTrees c (with_defined c x)
  pub interface : (x : Interface) → KeepsTrees c (with_interface c x)
  pub world : (x : World) → KeepsTrees c (with_world c x)
  pub module_type : (x : ModuleType) → KeepsTrees c (with_module c x)

-- Each type of the first collection has the same tree in the second, with resources known by bindings and names.
abbrev pub KeepsCalledTrees : Collection → Collection → Type 0
KeepsCalledTrees c d = (m : Names Called) (t : AnyType) → holds_type c t ≡ true → unfolded (by_binding d) d m t ≡ unfolded (by_binding c) c m t

-- These trees do not change when an item is added.
pub record GrowthKeepsCalledTrees (c : Collection) : Type 0 where
  pub resource : (x : Resource) → KeepsCalledTrees c (with_resource c x)
  pub func : (x : FuncType) → KeepsCalledTrees c (with_func c x)
  pub defined : (x : DefinedType) → KeepsCalledTrees c (with_defined c x)
  pub interface : (x : Interface) → KeepsCalledTrees c (with_interface c x)
  pub world : (x : World) → KeepsCalledTrees c (with_world c x)
  pub module_type : (x : ModuleType) → KeepsCalledTrees c (with_module c x)
