-- Trees of types of the collection: under other bindings, and of their parts.
use Rattle.std.specs.Prelude.{ℕ, ◌≡◌, true, List, Some}
use Rattle.std.specs.List.{AllByRecursion}
use Rattle.wac_types_shapes.specs.primitives.Name.{Name, find_name}
use Rattle.wac_types_shapes.specs.primitives.Tree.{exported, Leaf, Tree, moved, out_by, seen_from, items_in}
use Rattle.wac_types_shapes.specs.declared.shapes.component.ResourceId.{ResourceId}
use Rattle.wac_types_shapes.specs.declared.shapes.component.DefinedTypeId.{DefinedTypeId}
use Rattle.wac_types_shapes.specs.declared.shapes.component.FuncTypeId.{FuncTypeId}
use Rattle.wac_types_shapes.specs.declared.shapes.component.InterfaceId.{InterfaceId}
use Rattle.wac_types_shapes.specs.declared.shapes.component.DefinedType.{DefinedType}
use Rattle.wac_types_shapes.specs.declared.shapes.component.FuncType.{FuncType}
use Rattle.wac_types_shapes.specs.declared.shapes.component.Interface.{Interface}
use Rattle.wac_types_shapes.specs.declared.shapes.component.ValueType.{ValueType}
use Rattle.wac_types_shapes.specs.declared.shapes.component.ValueType.TheVariants as val
use Rattle.wac_types_shapes.specs.declared.shapes.component.«Type».{«Type» as AnyType}
use Rattle.wac_types_shapes.specs.declared.shapes.component.«Type».TheVariants as ty
use Rattle.wac_types_shapes.specs.declared.shapes.component.ItemKind.{ItemKind}
use Rattle.wac_types_collection.specs.collection.Collection.{Collection, IsWellFormed, item_at, holds_value, defined_values, func_values}
use Rattle.wac_types_collection.specs.collection.Held.{resolved}
use Rattle.wac_types_collection.specs.collection.Bound.{Bindings, inside_interface}
use Rattle.wac_binary.specs.HasMeaning.{IsValue}
use Rattle.wac_encode_stacks.specs.Good.{Extends, Carries, IsHeld, Holds}
use Rattle.wac_encode_stacks.specs.Listed.{IsItem}

-- The tree of a type under m is its tree under each m' to which f carries m, with the leaves mapped by f.
abbrev pub HeldCarried : Type 0
HeldCarried = (c : Collection) (f : Leaf → Leaf) (m m' : Bindings) (a : AnyType) (t : Tree) → Carries f m m' → IsHeld c m a t → IsHeld c m' a (moved f t)

-- The tree of a type k scopes further out is its tree here, seen from here, if the bindings there are carried to here.
abbrev pub HeldFurtherIn : Type 0
HeldFurtherIn = (c : Collection) (far m : Bindings) (k : ℕ) (a : AnyType) (t : Tree) → Carries (out_by k) far m → IsHeld c far a t → IsHeld c m a (seen_from k t)

-- The tree of a type is the same under bindings that extend m.
abbrev pub HeldUnderMore : Type 0
HeldUnderMore = (c : Collection) (m m' : Bindings) (a : AnyType) (t : Tree) → Extends m m' → IsHeld c m a t → IsHeld c m' a t

-- The tree of a value type of the collection is that of a value type.
abbrev pub HoldsValue : Type 0
HoldsValue = (c : Collection) → IsWellFormed c → (m : Bindings) (v : ValueType) (t : Tree) → holds_value c v ≡ true → IsHeld c m (ty.Value v) t → IsValue t

abbrev pub HoldsAll : Collection → Bindings → List ValueType → Type 0
HoldsAll c m vs = AllByRecursion (λ v. Holds c m (ty.Value v)) vs

-- If a definition has a tree under m, so has each value type in it.
abbrev pub HoldsParts : Type 0
HoldsParts = (c : Collection) → IsWellFormed c → (m : Bindings) (d : DefinedTypeId) (x : DefinedType)
    → item_at c.defined d.0 ≡ Some x → Holds c m (ty.Value (val.Defined d)) → HoldsAll c m (defined_values x)

-- If a function type has a tree under m, so have its parameters and its result.
abbrev pub HoldsFuncParts : Type 0
HoldsFuncParts = (c : Collection) → IsWellFormed c → (m : Bindings) (f : FuncTypeId) (x : FuncType)
    → item_at c.funcs f.0 ≡ Some x → Holds c m (ty.Func f) → HoldsAll c m (func_values x)

-- The tree of an interface has each of its exports, with the tree of that export inside the interface.
abbrev pub HoldsItems : Type 0
HoldsItems = (c : Collection) → IsWellFormed c → (m : Bindings) (i : InterfaceId) (it : Interface) (t : Tree) (n : Name) (k : ItemKind)
    → item_at c.interfaces i.0 ≡ Some it → find_name it.exports n ≡ Some k → IsHeld c m (ty.Interface i) t → IsItem c (inside_interface c it m) exported n k (items_in t n)

-- If a handle has a tree under m, m binds its resource.
abbrev pub HandlesAreBound : Type 0
HandlesAreBound = (c : Collection) (m : Bindings) (r : ResourceId)
    → (Holds c m (ty.Value (val.Own r)) → (l : Leaf) × (m (resolved c r) ≡ Some l)) × (Holds c m (ty.Value (val.Borrow r)) → (l : Leaf) × (m (resolved c r) ≡ Some l))

-- If a resource has a tree under m, m binds it.
abbrev pub ResourceIsBound : Type 0
ResourceIsBound = (c : Collection) (m : Bindings) (r : ResourceId) → Holds c m (ty.Resource r) → (l : Leaf) × (m (resolved c r) ≡ Some l)
