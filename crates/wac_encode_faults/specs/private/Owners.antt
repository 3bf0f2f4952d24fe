-- The numbers of the items that bind resources and supply interfaces, and steps between numbers; private functions alone cite this.
use Rattle.std.specs.Prelude.{ℕ, ◌≡◌, ◌<◌, ◌≤◌, ◌+◌, ◌⊎◌, ◌↔◌, Bool, not, if◌then◌else◌, List, filter, Option, Some, None, IsSome, length, slice_get, Contains}
use Rattle.std.specs.BTreeSet.{BTreeSet}
use Rattle.wac_edges.specs.cycles.Cycles.{IsStep}
use Rattle.wac_types_shapes.specs.primitives.Name.{Name, first_some}
use Rattle.wac_types_shapes.specs.primitives.Tree.{Side}
use Rattle.wac_types_shapes.specs.shapes.Kinds.{kind_type}
use Rattle.wac_types_shapes.specs.declared.shapes.component.InterfaceId.{InterfaceId}
use Rattle.wac_types_shapes.specs.declared.shapes.component.ResourceId.{ResourceId}
use Rattle.wac_types_shapes.specs.declared.shapes.component.UsedType.{UsedType}
use Rattle.wac_types_shapes.specs.declared.shapes.component.ItemKind.{ItemKind}
use Rattle.wac_types_shapes.specs.declared.shapes.component.ItemKind.TheVariants as kind
use Rattle.wac_types_collection.specs.collection.Collection.{Collection}
use Rattle.wac_types_collection.specs.collection.Bound.{Bindings, lists_type, bound_in_order, first_bound}
use Rattle.wac_types_collection.specs.wide.Wide.{interface_uses, used_interfaces, UsesWidely}
use Rattle.wac_encode_faults.specs.Free.{SideItem, IsFree, IsFreeInTypes}
use Rattle.wac_encode_faults.specs.Sides.{listed_interface}
use Rattle.wac_encode_faults.specs.Cycle.{owner_of, AreOwners}
use Rattle.wac_encode_faults.specs.private.Sets.{value_of}

-- Those for which P holds have this number now, unless they had one.
pub record AreNoted {K : Type 0} (P : K → Type 0) (number : ℕ) (old now : K → Option ℕ) : Type 0 where
  pub kept : (k : K) (n : ℕ) → old k ≡ Some n → now k ≡ Some n
  pub noted : (k : K) → P k → IsSome (now k)
  pub sound : (k : K) (n : ℕ) → now k ≡ Some n → (old k ≡ Some n) ⊎ (P k × (n ≡ number))

-- All items of both sides have these of one side from the first number on.
abbrev pub AreNumbered : List SideItem → Side → ℕ → List (Name × ItemKind) → Type 0
AreNumbered all side first items = (i : ℕ) (e : Name × ItemKind) → slice_get items i ≡ Some e → slice_get all (first + i) ≡ Some (record { side = side; name = e.0 })

-- The first bindings, and the second ones of what the first do not bind.
abbrev pub bound_then : Bindings → Bindings → Bindings
bound_then m n r = first_some (m r) (n r)

-- The item is a type item, or it is another item.
abbrev pub is_of_group : Bool → Name × ItemKind → Bool
is_of_group types e = if types then lists_type e else not (lists_type e)

-- The type items, or the other items.
abbrev pub group_of : Bool → List (Name × ItemKind) → List (Name × ItemKind)
group_of types items = filter (λ e. is_of_group types e) items

-- Of any bindings whose owners the map had, it has those that these bindings become with these ones of a side after them.
abbrev pub AddsBindings : (Side → Bindings) → ℕ → List (Name × ItemKind) → List (ResourceId × ℕ) → List (ResourceId × ℕ) → Type 0
AddsBindings new first items old now =
    (all : List SideItem) (side : Side) (m : Bindings) → AreNumbered all side first items → AreOwners all m old → AreOwners all (bound_then m (new side)) now

-- The owners by these items of a side, of which the first of all has this number, are added.
abbrev pub AddsOwners : Collection → List (Name × UsedType) → ℕ → List (Name × ItemKind) → List (Name × ItemKind) → List (ResourceId × ℕ) → List (ResourceId × ℕ) → Type 0
AddsOwners c uses first items group old now = AddsBindings (λ side. bound_in_order c uses side group) first items old now

-- The owners by the items of a side, of which the first has this number, are added.
abbrev pub AddsSideOwners : Collection → List (Name × UsedType) → ℕ → List (Name × ItemKind) → List (ResourceId × ℕ) → List (ResourceId × ℕ) → Type 0
AddsSideOwners c uses first items old now = AddsBindings (λ side. first_bound c uses side items) first items old now

-- One of the first items of these, at this number, is the interface's instance under its id. The first of all has the number `first`.
abbrev pub IsListedTo : Collection → ℕ → List (Name × ItemKind) → ℕ → InterfaceId → ℕ → Type 0
IsListedTo c first items count j n = (i : ℕ) × (e : Name × ItemKind) × (i < count) × (slice_get items i ≡ Some e) × Contains (listed_interface c e) j × (n ≡ first + i)

-- The interfaces for which P holds at some number have numbers now: those that they had, or such a number.
pub record AddsNumbers (P : InterfaceId → ℕ → Type 0) (old now : List (InterfaceId × ℕ)) : Type 0 where
  pub kept : (j : InterfaceId) (n : ℕ) → value_of old j ≡ Some n → value_of now j ≡ Some n
  pub noted : (j : InterfaceId) (n : ℕ) → P j n → IsSome (value_of now j)
  pub sound : (j : InterfaceId) (n : ℕ) → value_of now j ≡ Some n → (value_of old j ≡ Some n) ⊎ ((value_of old j ≡ None) × P j n)

-- The interfaces that these items list under their ids have numbers now. The first item has the number `first`.
abbrev pub AddsSuppliers : Collection → ℕ → List (Name × ItemKind) → List (InterfaceId × ℕ) → List (InterfaceId × ℕ) → Type 0
AddsSuppliers c first items old now = AddsNumbers (IsListedTo c first items (length items)) old now

-- The item uses the interface: an instance widely.
abbrev pub KindUses : Collection → ItemKind → InterfaceId → Type 0
KindUses c k j = (i : InterfaceId) × (k ≡ kind.Instance i) × UsesWidely c i j

-- An additional import uses the interface itself.
abbrev pub AdditionalUses : Collection → ItemKind → InterfaceId → Type 0
AdditionalUses c k j = (i : InterfaceId) × (k ≡ kind.Instance i) × Contains (used_interfaces (interface_uses c i)) j

-- The resource is free in an additional import.
abbrev pub IsFreeInAddition : Collection → ItemKind → ResourceId → Type 0
IsFreeInAddition c k r = (i : InterfaceId) × (k ≡ kind.Instance i) × IsFreeInTypes c i r

-- The number is that of a used interface, or of the owner of a free resource.
abbrev pub IsTarget : (InterfaceId → Type 0) → (ResourceId → Type 0) → List (InterfaceId × ℕ) → List (ResourceId × ℕ) → ℕ → Type 0
IsTarget Uses Free suppliers owners b = ((j : InterfaceId) × Uses j × (value_of suppliers j ≡ Some b)) ⊎ ((r : ResourceId) × Free r × (owner_of owners r ≡ Some b))

-- Steps from a number to all other numbers for which P holds are added.
abbrev pub AddsSteps : ℕ → (ℕ → Type 0) → List (BTreeSet ℕ) → List (BTreeSet ℕ) → Type 0
AddsSteps from P old now = (a b : ℕ) → IsStep now a b ↔ (IsStep old a b ⊎ ((a ≡ from) × (b ≡ from → ⊥) × P b))

-- Steps from the items, of which the first has this number, to all that they need are added.
abbrev pub AddsItemSteps : (ItemKind → InterfaceId → Type 0) → (ItemKind → ResourceId → Type 0) → ℕ → List (Name × ItemKind) → List (InterfaceId × ℕ) → List (ResourceId × ℕ)
    → List (BTreeSet ℕ) → List (BTreeSet ℕ) → Type 0
AddsItemSteps Uses Free first items suppliers owners old now =
    (a b : ℕ) → IsStep now a b ↔ (IsStep old a b ⊎ ((i : ℕ) × (e : Name × ItemKind) × (slice_get items i ≡ Some e) × (a ≡ first + i) × (b ≡ a → ⊥) × IsTarget (Uses e.1) (Free e.1) suppliers owners b))

-- Steps from imports to all that they need are added. The imports after the first ones are additional.
abbrev pub AddsImportSteps : Collection → ℕ → List (Name × ItemKind) → List (InterfaceId × ℕ) → List (ResourceId × ℕ) → List (BTreeSet ℕ) → List (BTreeSet ℕ) → Type 0
AddsImportSteps c own imports suppliers owners old now =
    (a b : ℕ) → IsStep now a b ↔ (IsStep old a b ⊎ ((e : Name × ItemKind) × (slice_get imports a ≡ Some e) × (b ≡ a → ⊥)
    × (((a < own) × IsTarget (KindUses c e.1) (IsFree c (kind_type e.1)) suppliers owners b)
    ⊎ ((own ≤ a) × IsTarget (AdditionalUses c e.1) (IsFreeInAddition c e.1) suppliers owners b))))
