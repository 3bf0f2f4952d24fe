-- What an instance in scope exports, and what imports of the root add.
use Rattle.std.specs.Prelude.{ℕ, ◌≡◌, Bool, true, false, List, [], ◌∷◌, ◌++◌, length, map, Some, None}
use Rattle.wac_types_shapes.specs.primitives.Name.{Name, find_name}
use Rattle.wac_types_shapes.specs.declared.shapes.component.ResourceId.{ResourceId}
use Rattle.wac_types_shapes.specs.declared.shapes.component.InterfaceId.{InterfaceId}
use Rattle.wac_types_shapes.specs.declared.shapes.component.Interface.{Interface}
use Rattle.wac_types_shapes.specs.declared.shapes.component.DefinedTypeId.{DefinedTypeId}
use Rattle.wac_types_shapes.specs.declared.shapes.component.ValueType.{ValueType}
use Rattle.wac_types_shapes.specs.declared.shapes.component.ValueType.TheVariants as val
use Rattle.wac_types_shapes.specs.declared.shapes.component.«Type».{«Type» as AnyType}
use Rattle.wac_types_shapes.specs.declared.shapes.component.«Type».TheVariants as ty
use Rattle.wac_types_shapes.specs.declared.shapes.component.ItemKind.TheVariants as kind
use Rattle.wac_types_shapes.specs.primitives.Tree.{Side, imported, exported, Place, position, named, Leaf, Tree, resource, items_in}
use Rattle.wac_types_collection.specs.collection.Collection.{Collection, IsWellFormed, item_at, holds_value}
use Rattle.wac_types_collection.specs.collection.Aliases.{value_resolved}
use Rattle.wac_types_collection.specs.collection.Bound.{Bindings, own_name, inside_interface, held_tree}
use Rattle.wac_binary.specs.declared.sorts.Description.{Description}
use Rattle.wac_binary.specs.declared.sorts.Description.TheVariants as e
use Rattle.wac_binary.specs.Indexes.{space, described_sort, indexes}
use Rattle.wac_binary.specs.Items.{Item, import_item}
use Rattle.wac_binary.specs.Unfold.{Bound, described_item}
use Rattle.wac_binary.specs.Meaning.{import_at, stands_for, meaning}
use Rattle.wac_binary.specs.HasMeaning.{IsType, IsFunction, IsInstance, IsComponent, IsModule}
use Rattle.wac_encode_stacks.specs.Scopes.{root, at_type, at_export, Open, Stack, env, envs, next_type, next_instance, bind_at, export_at}
use Rattle.wac_encode_stacks.specs.Good.{At, Stands, IsHeld, Good, Onward}
use Rattle.wac_encode_stacks.specs.private.Laws.{Adds}
use Rattle.wac_encode_stacks.specs.Listed.{IsItem, calling}

-- The bindings m bind each own resource of the interface to the export of its instance at this path.
abbrev pub BindsInstance : Collection → Interface → Side → List Place → Bindings → Type 0
BindsInstance c it side path m = (r : ResourceId) (n : Name) → own_name c it.uses it.exports r ≡ Some n → m r ≡ Some (record { out = 0; side = side; path = path ++ named n ∷ [] })

-- The bindings m bind each own resource of the interface, but for the others, to the export of its instance at this path.
abbrev pub BindsBut : Collection → Interface → (ResourceId → Bool) → Side → List Place → Bindings → Type 0
BindsBut c it others side path m = (r : ResourceId) (n : Name) → own_name c it.uses it.exports r ≡ Some n → others r ≡ false → m r ≡ Some (record { out = 0; side = side; path = path ++ named n ∷ [] })

-- The type has the same tree under bindings that differ for these resources alone.
abbrev pub IsApart : Collection → (ResourceId → Bool) → AnyType → Type 0
IsApart c these a = (m n : Bindings) → ((r : ResourceId) → these r ≡ false → m r ≡ n r) → held_tree c m a ≡ held_tree c n a

-- The instance has the type items of the interface, with their trees inside it. Other items may be missing or more.
abbrev pub Shows : Collection → Bindings → Interface → Bound → Type 0
Shows c m it b = (n : Name) (a : AnyType) → find_name it.exports n ≡ Some (kind.TypeItem a) → IsItem c (inside_interface c it m) exported n (kind.TypeItem a) (items_in b.type n)

-- An instance whose type has the tree of the interface has all its type items.
abbrev pub ShowsWhole : Type 0
ShowsWhole = (c : Collection) → IsWellFormed c → (m : Bindings) (i : InterfaceId) (it : Interface) (b : Bound)
    → item_at c.interfaces i.0 ≡ Some it → IsHeld c m (ty.Interface i) b.type → Shows c m it b

abbrev pub taken_leaf : Bound → Name → Leaf
taken_leaf b n = record { out = 0; side = b.side; path = b.path ++ named n ∷ [] }

-- An instance in scope exports each own resource of its interface.
abbrev pub HasOwn : Type 0
HasOwn = (c : Collection) (m : Bindings) (o : Open) (os : Stack) (it : Interface) (j : ℕ) (b : Bound) (r : ResourceId) (n : Name)
    → At ((env o (envs os)).instances) j b → Shows c m it b → find_name it.exports n ≡ Some (kind.TypeItem (ty.Resource r)) → own_name c it.uses it.exports r ≡ Some n
    → Stands (env o (envs os)) (resource (taken_leaf b n)) (at_export j n)

-- A value type that the interface exports may be recorded as an export of its instance, if m binds each own resource of the
-- interface on which the type depends to that instance.
abbrev pub HasExported : Type 0
HasExported = (c : Collection) → IsWellFormed c → (m : Bindings) (ms : List Bindings) (o : Open) (os : Stack) (it : Interface) (j : ℕ) (b : Bound) (v : ValueType) (d : DefinedTypeId) (n : Name) (others : ResourceId → Bool)
    → Good c (m ∷ ms) (o ∷ os) → At ((env o (envs os)).instances) j b → Shows c m it b
    → find_name it.exports n ≡ Some (kind.TypeItem (ty.Value v)) → value_resolved c v ≡ val.Defined d → holds_value c (val.Defined d) ≡ true
    → BindsBut c it others b.side b.path m → IsApart c others (ty.Value (val.Defined d))
    → Onward c (m ∷ ms) (o ∷ os) (export_at d (at_export j n) o ∷ os)

-- The place of the root's next import in a path: its position among the imports.
abbrev pub position_of : List Item → Place
position_of items = position (length (meaning items).imports)

abbrev pub holding : List Item → Open → Open
holding items o = record o { content = root items }

-- The root may import an instance whose type is in scope; its instance index refers to that import.
abbrev pub ImportsInstance : Type 0
ImportsInstance = (c : Collection) (m : Bindings) (items : List Item) (o : Open) (n : Name) (i : ℕ) (t : Tree)
    → Good c (m ∷ []) (holding items o ∷ []) → IsInstance t → At ((meaning items).scope.types) i t
    → Onward c (m ∷ []) (holding items o ∷ []) (holding (items ++ import_item n (e.Instance i) ∷ []) o ∷ [])
    × At ((meaning (items ++ import_item n (e.Instance i) ∷ [])).scope.instances) (next_instance (holding items o)) (record { type = t; side = imported; path = position_of items ∷ [] })

-- The root may import a type that equals a type in scope; its new type index refers to that type.
abbrev pub ImportsType : Type 0
ImportsType = (c : Collection) (m : Bindings) (items : List Item) (o : Open) (n : Name) (i : ℕ) (t : Tree)
    → Good c (m ∷ []) (holding items o ∷ []) → IsType t → At ((meaning items).scope.types) i t
    → Adds c (m ∷ []) (holding items o ∷ []) (holding (items ++ import_item n (e.Equal i) ∷ []) o ∷ []) (next_type (holding items o)) t

abbrev pub import_leaf : List Item → Leaf
import_leaf items = record { out = 0; side = imported; path = position_of items ∷ [] }

-- The root may import a fresh resource that is not bound yet, if it is recorded at its type index.
abbrev pub ImportsFresh : Type 0
ImportsFresh = (c : Collection) (m : Bindings) (items : List Item) (o : Open) (n : Name) (r : ResourceId)
    → Good c (m ∷ []) (holding items o ∷ []) → m r ≡ None
    → Adds c (calling r (import_leaf items) m ∷ []) (holding items o ∷ []) (bind_at r (at_type (next_type (holding items o))) (holding (items ++ import_item n e.Fresh ∷ []) o) ∷ []) (next_type (holding items o)) (resource (import_leaf items))

-- The root may import a function whose type is in scope.
abbrev pub ImportsFunc : Type 0
ImportsFunc = (c : Collection) (m : Bindings) (items : List Item) (o : Open) (n : Name) (i : ℕ) (t : Tree)
    → Good c (m ∷ []) (holding items o ∷ []) → IsFunction t → At ((meaning items).scope.types) i t
    → Onward c (m ∷ []) (holding items o ∷ []) (holding (items ++ import_item n (e.Func i) ∷ []) o ∷ [])

-- The root may import a core module whose type is in scope.
abbrev pub ImportsModule : Type 0
ImportsModule = (c : Collection) (m : Bindings) (items : List Item) (o : Open) (n : Name) (i : ℕ) (t : Tree)
    → Good c (m ∷ []) (holding items o ∷ []) → IsModule t → At ((meaning items).scope.core_types) i t
    → Onward c (m ∷ []) (holding items o ∷ []) (holding (items ++ import_item n (e.CoreModule i) ∷ []) o ∷ [])

-- The root may import a component whose type is in scope.
abbrev pub ImportsComponent : Type 0
ImportsComponent = (c : Collection) (m : Bindings) (items : List Item) (o : Open) (n : Name) (i : ℕ) (t : Tree)
    → Good c (m ∷ []) (holding items o ∷ []) → IsComponent t → At ((meaning items).scope.types) i t
    → Onward c (m ∷ []) (holding items o ∷ []) (holding (items ++ import_item n (e.Component i) ∷ []) o ∷ [])

-- An import is appended to the root's imports, and the index that it adds refers to the import at that position.
abbrev pub ListsImport : Type 0
ListsImport = (items : List Item) (n : Name) (d : Description)
    → ((meaning (items ++ import_item n d ∷ [])).imports ≡ (meaning items).imports ++ (n, described_item (meaning items).scope d) ∷ [])
    × (stands_for (meaning (items ++ import_item n d ∷ [])) (described_sort d) (indexes (space (described_sort d)) items) ≡ import_at (length (meaning items).imports))
