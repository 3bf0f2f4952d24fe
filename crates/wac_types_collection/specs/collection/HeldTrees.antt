-- Laws of the trees of types of a collection.
use Rattle.std.specs.Prelude.{◌≡◌, ◌++◌, true, false, List, [], ◌∷◌, map, Option, Some, None}
use Rattle.wac_types_shapes.specs.primitives.Name.{Name, same_name, find_name, option_case}
use Rattle.wac_types_shapes.specs.declared.shapes.component.ResourceId.{ResourceId}
use Rattle.wac_types_shapes.specs.declared.shapes.component.Resource.{Resource}
use Rattle.wac_types_shapes.specs.declared.shapes.component.FuncType.{FuncType}
use Rattle.wac_types_shapes.specs.declared.shapes.component.FuncTypeId.{FuncTypeId}
use Rattle.wac_types_shapes.specs.declared.shapes.component.DefinedType.{DefinedType}
use Rattle.wac_types_shapes.specs.declared.shapes.component.DefinedTypeId.{DefinedTypeId}
use Rattle.wac_types_shapes.specs.declared.shapes.component.Interface.{Interface}
use Rattle.wac_types_shapes.specs.declared.shapes.component.InterfaceId.{InterfaceId}
use Rattle.wac_types_shapes.specs.declared.shapes.component.World.{World}
use Rattle.wac_types_shapes.specs.declared.shapes.component.WorldId.{WorldId}
use Rattle.wac_types_shapes.specs.declared.shapes.component.ModuleTypeId.{ModuleTypeId}
use Rattle.wac_types_shapes.specs.declared.shapes.core_types.ModuleType.{ModuleType}
use Rattle.wac_types_shapes.specs.declared.shapes.component.ValueType.TheVariants as val
use Rattle.wac_types_shapes.specs.declared.shapes.component.«Type».{«Type» as AnyType}
use Rattle.wac_types_shapes.specs.declared.shapes.component.«Type».TheVariants as ty
use Rattle.wac_types_shapes.specs.declared.shapes.component.ItemKind.{ItemKind}
use Rattle.wac_types_shapes.specs.declared.shapes.component.ItemKind.TheVariants as kind
use Rattle.wac_types_shapes.specs.primitives.Tree.{Side, exported, Place, named, Leaf, Tree, absent, moved, taken_from}
use Rattle.wac_types_collection.specs.collection.Collection.{Collection, item_at, holds_type}
use Rattle.wac_types_collection.specs.collection.Held.{resolved, items_under}
use Rattle.wac_types_collection.specs.collection.Bound.{Bindings, own_name, inside_interface, binds_here, held_tree}

-- The binding changed, if there is one.
abbrev pub changed_leaf : (Leaf → Leaf) → Option Leaf → Option Leaf
changed_leaf f o = option_case o None (λ l. Some (f l))

-- The bindings, each changed.
abbrev pub changed : (Leaf → Leaf) → Bindings → Bindings
changed f m r = changed_leaf f (m r)

-- The tree of a type with its bindings changed is the tree of the type under the changed bindings.
abbrev pub MovesWithBindings : Type 0
MovesWithBindings = (c : Collection) (f : Leaf → Leaf) (m : Bindings) (t : AnyType) → moved f (held_tree c m t) ≡ held_tree c (changed f m) t

-- Two changes of bindings in a row are one change.
abbrev pub MovesTwice : Type 0
MovesTwice = (t : Tree) (f g : Leaf → Leaf) → moved f (moved g t) ≡ moved (λ l. f (g l)) t

-- A change that changes no binding does not change the tree.
abbrev pub MovesNothing : Type 0
MovesNothing = (t : Tree) → moved (λ l. l) t ≡ t

-- These bindings bind the own resources of an interface as an instance of it at this side and path does.
abbrev pub BindsInstance : Collection → Interface → Side → List Place → Bindings → Type 0
BindsInstance c i side path m = (r : ResourceId) (n : Name) → own_name c i.uses i.exports r ≡ Some n → m r ≡ Some (record { out = 0; side = side; path = path ++ named n ∷ [] })

-- The tree of an instance's export, seen from the scope of the instance, is the tree of its type in that scope.
abbrev pub TakenIsHeld : Type 0
TakenIsHeld = (c : Collection) (i : Interface) (side : Side) (path : List Place) (m : Bindings) → BindsInstance c i side path m
    → (t : AnyType) → taken_from side path (held_tree c (inside_interface c i m) t) ≡ held_tree c m t

-- A resource that is an interface's own is no alias.
abbrev pub OwnIsItsEnd : Type 0
OwnIsItsEnd = (c : Collection) (i : Interface) (r : ResourceId) (n : Name) → own_name c i.uses i.exports r ≡ Some n → resolved c r ≡ r

-- A type export of a resource is fresh if and only if it has the interface's own name of the resolved resource.
abbrev pub FreshByOwnName : Type 0
FreshByOwnName = (c : Collection) (i : Interface) (m : Bindings) (n : Name) (r : ResourceId)
    → binds_here c (inside_interface c i m) exported (named n ∷ []) (kind.TypeItem (ty.Resource r)) ≡ option_case (own_name c i.uses i.exports (resolved c r)) false (λ q. same_name q n)

-- The tree of a name is the tree of the item that is found under the name.
abbrev pub ItemsAreFound : Type 0
ItemsAreFound = (g : Name × ItemKind → Tree) (es : List (Name × ItemKind)) (n : Name) → items_under (map (λ e. (e.0, g e)) es) n ≡ option_case (find_name es n) absent (λ k. g (n, k))

-- An id that finds an item is an id of the collection.
pub record FoundIsHeld (c : Collection) : Type 0 where
  pub resource : (i : ResourceId) (x : Resource) → item_at c.resources i.0 ≡ Some x → holds_type c (ty.Resource i) ≡ true
  pub func : (i : FuncTypeId) (x : FuncType) → item_at c.funcs i.0 ≡ Some x → holds_type c (ty.Func i) ≡ true
  pub defined : (i : DefinedTypeId) (x : DefinedType) → item_at c.defined i.0 ≡ Some x → holds_type c (ty.Value (val.Defined i)) ≡ true
  pub interface : (i : InterfaceId) (x : Interface) → item_at c.interfaces i.0 ≡ Some x → holds_type c (ty.Interface i) ≡ true
  pub world : (i : WorldId) (x : World) → item_at c.worlds i.0 ≡ Some x → holds_type c (ty.World i) ≡ true
  pub module_type : (i : ModuleTypeId) (x : ModuleType) → item_at c.modules i.0 ≡ Some x → holds_type c (ty.Module i) ≡ true

-- Names are the same if and only if they are equal.
abbrev pub SameNamesAreEqual : Type 0
SameNamesAreEqual = (a b : Name) → (same_name a b ≡ true → a ≡ b) × (a ≡ b → same_name a b ≡ true)
