-- The component types that definitions are; private functions alone cite this.
use Rattle.std.specs.Prelude.{◌≡◌, true, List, [], ◌∷◌, Some, None, Contains}
use Rattle.wac_types_shapes.specs.primitives.Name.{Name}
use Rattle.wac_types_shapes.specs.primitives.Tree.{Tree, absent, component, component_item}
use Rattle.wac_types_shapes.specs.declared.shapes.component.«Type».{«Type» as AnyType}
use Rattle.wac_types_shapes.specs.declared.shapes.component.«Type».TheVariants as ty
use Rattle.wac_types_collection.specs.collection.Collection.{Collection, holds_type}
use Rattle.wac_types_collection.specs.collection.Held.{items_under}
use Rattle.wac_types_collection.specs.collection.Bound.{Bindings}
use Rattle.wac_binary.specs.Items.{Decl}
use Rattle.wac_encode_scopes.specs.private.Components.{ComponentHasMeaning, component_tree}
use Rattle.wac_encode_faults.specs.Faults.{definition_fault}
use Rattle.wac_encode_faults.specs.Sides.{Sides, defined_sides}
use Rattle.wac_encode_faults.specs.Trees.{sides_tree, definition_tree}
use Rattle.wac_encode_interfaces.specs.private.Definitions.{HaveWorldsInside, HaveDefinedWorlds}
use Rattle.wac_encode_interfaces.specs.private.Ready.{AreSidesClean, IsClean}
use Rattle.wac_encode_interfaces.specs.private.Worlds.{Worlds, HaveWorlds}

-- If the definition of the type is a component type, it has no fault.
abbrev pub IsCleanDefined : Collection → AnyType → Type 0
IsCleanDefined c a = (s : Sides) → defined_sides c a ≡ Some s → AreSidesClean c s

-- If the definition of the type is a component type, that can be written.
pub record HasDefinition (c : Collection) (ws : Worlds) (a : AnyType) : Type 0 where
  pub held : holds_type c a ≡ true
  pub named : definition_fault c a ≡ None
  pub clean : IsCleanDefined c a
  pub worlds : HaveDefinedWorlds c ws a

-- The declarations have a meaning, and the tree of a component type with the sides of the type's definition.
abbrev pub HasDefinedSides : Collection → AnyType → List Decl → Type 0
HasDefinedSides c a ds = (s : Sides) → defined_sides c a ≡ Some s → ComponentHasMeaning ds × (component_tree ds ≡ sides_tree c s)

-- The declarations have a meaning, and this tree.
abbrev pub IsComponentOf : Tree → List Decl → Type 0
IsComponentOf t ds = ComponentHasMeaning ds × (component_tree ds ≡ t)

-- A component type that exports a component with this tree under a name.
abbrev pub exporting_one : Name → Tree → Tree
exporting_one n t = component (λ _. absent) (items_under ((n, component_item t) ∷ []))

-- The definition of the type is a component type.
abbrev pub IsScopeType : AnyType → Type 0
IsScopeType (ty.Interface i) = Unit {0}
IsScopeType (ty.World w) = Unit {0}
IsScopeType a = ⊥

-- The declarations are the definition of the type, whatever the root binds.
pub record IsDefinition (c : Collection) (a : AnyType) (ds : List Decl) : Type 0 where
  pub sort : IsScopeType a
  pub is : (m : Bindings) → IsComponentOf (definition_tree c m a) ds

-- The definition of the type is no component type.
abbrev pub IsPlainType : AnyType → Type 0
IsPlainType (ty.Interface i) = ⊥
IsPlainType (ty.World w) = ⊥
IsPlainType a = Unit {0}

-- The types of the collection inside which the worlds of a component type with these sides are written.
pub record AreSideRoots (c : Collection) (s : Sides) (roots : List AnyType) : Type 0 where
  pub held : (t : AnyType) → Contains roots t → holds_type c t ≡ true
  pub clean : AreSidesClean c s → (t : AnyType) → Contains roots t → IsClean c t
  pub enough : (ws : Worlds) → ((t : AnyType) → Contains roots t → HaveWorlds c ws t) → HaveWorldsInside c ws s

-- If the definition of the type is a component type, these are its roots.
abbrev pub AreDefinedRoots : Collection → AnyType → List AnyType → Type 0
AreDefinedRoots c a roots = (s : Sides) → defined_sides c a ≡ Some s → AreSideRoots c s roots
