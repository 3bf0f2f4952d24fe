-- The laws of the order of classes.
use Rattle.std.specs.Prelude.{ℕ, ◌≡◌, ◌<◌, ◌↔◌, true, false, List, take, length, Some, slice_get, Contains}
use Rattle.wac_types_shapes.specs.primitives.Name.{Name, find_name}
use Rattle.wac_types_shapes.specs.declared.shapes.component.Interface.{Interface}
use Rattle.wac_types_shapes.specs.declared.shapes.component.InterfaceId.{InterfaceId}
use Rattle.wac_types_shapes.specs.declared.shapes.component.ItemKind.TheVariants as kind
use Rattle.wac_types_shapes.specs.declared.shapes.component.UsedType.{UsedType}
use Rattle.wac_types_shapes.specs.declared.shapes.component.«Type».{«Type» as AnyType}
use Rattle.wac_types_collection.specs.collection.Collection.{Collection, item_at}
use Rattle.wac_types_collection.specs.collection.Uses.{is_there, is_used_by_id, name_there}
use Rattle.wac_types_collection.specs.subtyping.Subtype.{by_name}
use Rattle.wac_types_collection.specs.subtyping.TreeLaws.{IsDeepEnough}
use Rattle.wac_merge_classes.specs.entries.Classes.{Entry, by_names, class_names, members, names_instance, same_class}
use Rattle.wac_merge_classes.specs.terms.ClassOrder.{IsWrittenOrder, RestsOn}
use Rattle.wac_merge_classes.specs.terms.Merge.{IsMerge, Merged}
use Rattle.wac_merge_unions.specs.uses.KeptUses.{imported_interface, of_interface}
use Rattle.wac_merge_imports.specs.unions.OneId.{HasOneIdEach}
use Rattle.wac_merge_classes.specs.terms.Faults.{HasNoCircle}
use Rattle.wac_merge.specs.Listed.{AreListedInOrder}

-- The order has each class, once if no class depends on itself through others, and no other order is a written one.
pub record IsOnlyOrder (c : Collection) (es : List Entry) (order : List ℕ) : Type 0 where
  pub each : (k : ℕ) → (Contains order k ↔ k < length (class_names by_names es))
  pub once : HasNoCircle by_names c es → (i j k : ℕ) → slice_get order i ≡ Some k → slice_get order j ≡ Some k → i ≡ j
  pub only : (other : List ℕ) → IsWrittenOrder by_names c es other → order ≡ other

-- A written order is the only one.
abbrev pub OrderLaw : Type 0
OrderLaw = (c : Collection) (es : List Entry) (order : List ℕ) → IsWrittenOrder by_names c es order → IsOnlyOrder c es order

-- If a class depends on another one, that one comes first in a written order.
abbrev pub RestsLaw : Type 0
RestsLaw = (c : Collection) (es : List Entry) (order : List ℕ) → IsWrittenOrder by_names c es order
    → (i a b : ℕ) → RestsOn by_names c es a b → b < length (class_names by_names es) → slice_get order i ≡ Some a → (j : ℕ) × (j < i) × (slice_get order j ≡ Some b)

-- If a class uses an interface whose id names an instance of another class, that class is imported first.
-- If an entry of that name has that id, the import has an id, and it exports the used type if the entry does.
abbrev pub UsedLaw : Type 0
UsedLaw = (c : Collection) (es : List Entry) (m : Merged) → IsMerge by_names c es m
    → (p : ℕ) (e member : Entry) (i : InterfaceId) (it used : Interface) (n id : Name) (u : UsedType)
    → slice_get m.imports p ≡ Some e → Contains (members by_names es e.name) member → member.kind ≡ kind.Instance i → item_at c.interfaces i.0 ≡ Some it
    → Contains it.uses (n, u) → item_at c.interfaces (u.interface).0 ≡ Some used → used.id ≡ Some id
    → names_instance es id ≡ true → same_class by_names es id e.name ≡ false
    → (j : InterfaceId) × (imported_interface by_names c es (take p m.imports) u.interface ≡ Some j)
    × ((o : ℕ) (w : Entry) (x : InterfaceId) (own : Interface) → slice_get es o ≡ Some w → w.name ≡ id → w.kind ≡ kind.Instance x → item_at c.interfaces x.0 ≡ Some own → own.id ≡ Some id
    → (is_used_by_id m.types (of_interface j u) ≡ true)
    × (IsDeepEnough by_name c → IsDeepEnough by_name m.types → (t : AnyType) → find_name own.exports (name_there n u) ≡ Some (kind.TypeItem t) → is_there m.types (n, of_interface j u) ≡ true))

-- Each interface of a merge exports the names of those that it unites, in order of first appearance.
abbrev pub ListedLaw : Type 0
ListedLaw = (c : Collection) (es : List Entry) (m : Merged) → IsMerge by_names c es m → HasOneIdEach c es m → AreListedInOrder by_names c es m
