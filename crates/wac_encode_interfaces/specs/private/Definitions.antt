-- The definitions of types in the innermost scope, and the types inside which worlds are written before them.
use Rattle.std.specs.Prelude.{ℕ, ◌≡◌, Bool, true, List, Some, Contains}
use Rattle.wac_types_shapes.specs.primitives.Name.{Name}
use Rattle.wac_types_shapes.specs.primitives.Tree.{Tree}
use Rattle.wac_types_shapes.specs.declared.shapes.component.InterfaceId.{InterfaceId}
use Rattle.wac_types_shapes.specs.declared.shapes.component.ItemKind.TheVariants as kind
use Rattle.wac_types_shapes.specs.declared.shapes.component.«Type».{«Type» as AnyType}
use Rattle.wac_types_shapes.specs.declared.shapes.component.«Type».TheVariants as ty
use Rattle.wac_types_collection.specs.collection.Collection.{Collection, holds_type}
use Rattle.wac_types_collection.specs.collection.Bound.{Bindings}
use Rattle.wac_binary.specs.HasMeaning.{IsComponent}
use Rattle.wac_encode_stacks.specs.Good.{At, Good, innermost, top}
use Rattle.wac_encode_scopes.specs.declared.state.State.{State}
use Rattle.wac_encode_scopes.specs.States.{stack}
use Rattle.wac_encode_faults.specs.declared.fault.WriteFault.{WriteFault}
use Rattle.wac_encode_faults.specs.Faults.{IsDefinitionFault}
use Rattle.wac_encode_faults.specs.Sides.{Sides, defined_sides}
use Rattle.wac_encode_faults.specs.Trees.{definition_tree}
use Rattle.wac_encode_interfaces.specs.private.Given.{HaveItemWorlds}
use Rattle.wac_encode_interfaces.specs.private.Items.{IsTypeOf}
use Rattle.wac_encode_interfaces.specs.private.Ready.{IsClean}
use Rattle.wac_encode_interfaces.specs.private.Worlds.{Worlds, HaveWorlds, HaveInterfaceWorlds}

-- The worlds inside the imports and exports of a component type are written. Of an additional import, those inside its types.
pub record HaveWorldsInside (c : Collection) (ws : Worlds) (s : Sides) : Type 0 where
  pub imports : HaveItemWorlds c ws s.imports
  pub exports : HaveItemWorlds c ws s.exports
  pub additional : (n : Name) (i : InterfaceId) → Contains s.additional (n, kind.Instance i) → HaveInterfaceWorlds c ws true i

-- If the definition of the type is a component type, the worlds inside it are written.
abbrev pub HaveDefinedWorlds : Collection → Worlds → AnyType → Type 0
HaveDefinedWorlds c ws a = (s : Sides) → defined_sides c a ≡ Some s → HaveWorldsInside c ws s

-- The definition of the type has no fault under the root's bindings.
abbrev pub IsFaultlessDefinition : Collection → Bindings → AnyType → Type 0
IsFaultlessDefinition c root a = (f : WriteFault) → IsDefinitionFault c root a f → ⊥

-- The type can be defined: the scopes are good under some bindings, under which its definition has no fault, and the worlds
-- inside it are written.
pub record IsDefinable (c : Collection) (b : Bool) (ws : Worlds) (s : State) (a : AnyType) : Type 0 where
  pub held : holds_type c a ≡ true
  pub bindings : List Bindings
  pub good : Good c bindings (stack b s)
  pub clean : IsFaultlessDefinition c (top bindings) a
  pub worlds : HaveDefinedWorlds c ws a

-- The tree is of the sort of the type's definition: a component type for an interface or a world, or else of the type's sort.
abbrev pub IsOfDefinition : AnyType → Tree → Type 0
IsOfDefinition (ty.Interface i) t = IsComponent t
IsOfDefinition (ty.World w) t = IsComponent t
IsOfDefinition a t = IsTypeOf a t

-- The type index in the innermost scope refers to the definition of the type, under all bindings under which the scopes are
-- good.
abbrev pub IsDefinitionAt : Collection → Bool → State → AnyType → ℕ → Type 0
IsDefinitionAt c b s a k = (ms : List Bindings) → Good c ms (stack b s) → IsOfDefinition a (definition_tree c (top ms) a) × At ((innermost (stack b s)).types) k (definition_tree c (top ms) a)

-- The types of the collection inside which worlds must be written before the type is defined. If the definition has no fault,
-- nothing inside them has one.
pub record AreDefinitionRoots (c : Collection) (a : AnyType) (roots : List AnyType) : Type 0 where
  pub held : (t : AnyType) → Contains roots t → holds_type c t ≡ true
  pub clean : (root : Bindings) → IsFaultlessDefinition c root a → (t : AnyType) → Contains roots t → IsClean c t
  pub enough : (ws : Worlds) → ((t : AnyType) → Contains roots t → HaveWorlds c ws t) → HaveDefinedWorlds c ws a
