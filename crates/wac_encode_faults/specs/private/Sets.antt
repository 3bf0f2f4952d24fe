-- How the free resources of interfaces are found; private functions alone cite this.
use Rattle.std.specs.Prelude.{ℕ, ◌≡◌, ◌<◌, ◌≤◌, ◌⊎◌, ◌↔◌, not, if◌then◌else◌, is_some, List, [], ◌∷◌, ◌++◌, Option, Some, None, slice_get, Contains}
use Rattle.std.specs.Map.{lookup}
use Rattle.indexmap.specs.IndexSet.{IndexSet}
use Rattle.wac_types_shapes.specs.primitives.Name.{Name, find_name}
use Rattle.wac_types_shapes.specs.shapes.Kinds.{kind_type}
use Rattle.wac_types_shapes.specs.contracts.shapes.component.InterfaceIdPartialEq.TheImpl as IdEq
use Rattle.wac_types_shapes.specs.declared.shapes.component.InterfaceId.{InterfaceId}
use Rattle.wac_types_shapes.specs.declared.shapes.component.ResourceId.{ResourceId}
use Rattle.wac_types_shapes.specs.declared.shapes.component.UsedType.{UsedType}
use Rattle.wac_types_shapes.specs.declared.shapes.component.ItemKind.{ItemKind}
use Rattle.wac_types_shapes.specs.declared.shapes.component.ItemKind.TheVariants as kind
use Rattle.wac_types_shapes.specs.declared.shapes.component.«Type».{«Type» as AnyType}
use Rattle.wac_types_shapes.specs.declared.shapes.component.«Type».TheVariants as ty
use Rattle.wac_types_collection.specs.collection.Collection.{Collection}
use Rattle.wac_types_collection.specs.collection.Bound.{is_alias}
use Rattle.wac_types_collection.specs.reach.Reach.{IsIn}
use Rattle.wac_encode_faults.specs.Free.{IsFree}
use Rattle.wac_encode_faults.specs.private.Order.{children}

-- The type itself, if it is no interface.
abbrev pub other_of : AnyType → List AnyType
other_of (ty.Interface i) = []
other_of (ty.World w) = ty.World w ∷ []
other_of (ty.Resource r) = ty.Resource r ∷ []
other_of (ty.Func f) = ty.Func f ∷ []
other_of (ty.Value v) = ty.Value v ∷ []
other_of (ty.Module m) = ty.Module m ∷ []

-- The types of the items that are no interfaces.
abbrev pub others_of : List (Name × ItemKind) → List AnyType
others_of [] = []
others_of (e ∷ es) = other_of (kind_type e.1) ++ others_of es

-- The resource is free in one of the types.
abbrev pub IsFreeInOne : Collection → List AnyType → ResourceId → Type 0
IsFreeInOne c ts r = (t : AnyType) × IsIn t ts × IsFree c t r

-- The resource is free in one of the interfaces.
abbrev pub IsFreeInside : Collection → List InterfaceId → ResourceId → Type 0
IsFreeInside c is r = (j : InterfaceId) × Contains is j × IsFree c (ty.Interface j) r

-- The resource of a type item, if it is no alias.
abbrev pub resource_itself : Collection → ItemKind → Option ResourceId
resource_itself c (kind.TypeItem (ty.Resource q)) = if is_alias c q then None else Some q
resource_itself c k = None

-- The own resource under this name.
abbrev pub own_resource : Collection → List (Name × UsedType) → Name × ItemKind → Option ResourceId
own_resource c uses e = if is_some (find_name uses e.0) then None else resource_itself c e.1

-- The value of an interface in a map.
abbrev pub value_of : {X : Type 0} → List (InterfaceId × X) → InterfaceId → Option X
value_of entries i = lookup ((IdEq.ghosts).eq i) entries

-- The map has the resource in the set of the interface.
abbrev pub IsInSet : {S : Type 0} → List (InterfaceId × IndexSet ResourceId S) → InterfaceId → ResourceId → Type 0
IsInSet {S} entries i r = (s : IndexSet ResourceId S) × (value_of entries i ≡ Some s) × Contains s.keys r

-- The map has the resource in the set of one of the interfaces.
abbrev pub IsInSets : {S : Type 0} → List (InterfaceId × IndexSet ResourceId S) → List InterfaceId → ResourceId → Type 0
IsInSets entries is r = (j : InterfaceId) × Contains is j × IsInSet entries j r

-- The map has the free resources of the interface.
abbrev pub HasSet : {S : Type 0} → Collection → List (InterfaceId × IndexSet ResourceId S) → InterfaceId → Type 0
HasSet {S} c entries i = (s : IndexSet ResourceId S) × (value_of entries i ≡ Some s) × ((r : ResourceId) → Contains s.keys r ↔ IsFree c (ty.Interface i) r)

-- An export of the interface at this position has the other interface as its type.
abbrev pub IsReadAt : Collection → List InterfaceId → ℕ → InterfaceId → Type 0
IsReadAt c order q j = (i : InterfaceId) × (slice_get order q ≡ Some i) × Contains (children c i) j

-- The map has a position for each interface that is read before this one, and it is not read after that.
abbrev pub AreLast : Collection → List InterfaceId → ℕ → List (InterfaceId × ℕ) → Type 0
AreLast c order n last = (q : ℕ) (j : InterfaceId) → q < n → IsReadAt c order q j → (m : ℕ) × (value_of last j ≡ Some m) × (q ≤ m)

-- The interface is asked for, or it is read at this position or later.
abbrev pub IsNeeded : Collection → List InterfaceId → List InterfaceId → ℕ → InterfaceId → Type 0
IsNeeded c roots order n j = Contains roots j ⊎ ((q : ℕ) × (n ≤ q) × IsReadAt c order q j)

-- The map has the free resources of each interface before the first position that is needed at the second or later.
abbrev pub AreSets : {S : Type 0} → Collection → List InterfaceId → List InterfaceId → ℕ → ℕ → List (InterfaceId × IndexSet ResourceId S) → Type 0
AreSets c roots order n next entries = (p : ℕ) (j : InterfaceId) → p < n → slice_get order p ≡ Some j → IsNeeded c roots order next j → HasSet c entries j
