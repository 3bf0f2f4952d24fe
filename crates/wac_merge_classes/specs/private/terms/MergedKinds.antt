-- The kinds of the merged imports. Only contracts inside the merge cite this file.
use Rattle.std.specs.Prelude.{ℕ, ◌≡◌, ◌<◌, true, false, List, [], length, Option, Some, None, slice_get, Contains}
use Rattle.std.specs.List.{AllZip, list_any}
use Rattle.wac_types_shapes.specs.primitives.Name.{Name}
use Rattle.wac_types_collection.specs.collection.Collection.{Collection, item_at}
use Rattle.wac_types_shapes.specs.shapes.Named.{NoNameTwice}
use Rattle.wac_types_shapes.specs.declared.shapes.component.Interface.{Interface}
use Rattle.wac_types_shapes.specs.declared.shapes.component.InterfaceId.{InterfaceId}
use Rattle.wac_types_shapes.specs.declared.shapes.component.ResourceId.{ResourceId}
use Rattle.wac_types_shapes.specs.declared.shapes.component.«Type».TheVariants as ty
use Rattle.wac_types_shapes.specs.declared.shapes.component.ItemKind.{ItemKind}
use Rattle.wac_types_shapes.specs.declared.shapes.component.ItemKind.TheVariants as kind
use Rattle.wac_types_collection.specs.subtyping.Called.{resource_name}
use Rattle.wac_merge_classes.specs.declared.terms.fresh.Fresh.{Fresh}
use Rattle.wac_merge_classes.specs.declared.terms.parts.Part.{Part}
use Rattle.wac_merge_classes.specs.entries.Binding.{class_binds}
use Rattle.wac_merge_classes.specs.terms.Became.{whole_in}
use Rattle.wac_merge_classes.specs.entries.Classes.{Entry, by_names, canonical, class_names, is_instance, members}
use Rattle.wac_merge_classes.specs.terms.Merge.{is_on_track}
use Rattle.wac_merge_classes.specs.entries.Places.{resource_itself}

-- The interface of each part has distinct export names.
abbrev pub AreListedOnce : Collection → List Part → Type 0
AreListedOnce c ps = (p : ℕ) (x : Part) (it : Interface) → slice_get ps p ≡ Some x → item_at c.interfaces x.interface.0 ≡ Some it → NoNameTwice it.exports

-- All resource imports of a class have the same name.
abbrev pub AreNamedAlike : Collection → List Entry → Type 0
AreNamedAlike c es = (k : ℕ) (class : Name) (r q : ResourceId) → slice_get (class_names by_names es) k ≡ Some class → class_binds by_names c es class r ≡ Some [] → class_binds by_names c es class q ≡ Some []
    → resource_name c r ≡ resource_name c q

-- The entries are instances of these interfaces.
abbrev pub AreInstancesOf : List Entry → List InterfaceId → Type 0
AreInstancesOf es is = AllZip (λ e i. e.kind ≡ kind.Instance i) es is

-- No entry is an instance.
abbrev pub AreNoInstances : List Entry → Type 0
AreNoInstances es = (e : Entry) → Contains es e → is_instance e.kind ≡ false

-- A class is imported as an instance of its union's interface, as its new resource, or as another item that binds
-- nothing.
pub data IsMergedKind (es : List Entry) (roots : List (List InterfaceId)) (f : Fresh) (m : Collection) (ws : List InterfaceId) (k : ℕ) (class : Name) : ItemKind → Type 0 where
  as_instance : (w : InterfaceId) (is : List InterfaceId) → slice_get roots k ≡ Some is → AreInstancesOf (members by_names es class) is → slice_get ws k ≡ Some w → IsMergedKind es roots f m ws k class (kind.Instance w)
  as_resource : (q : ResourceId) → AreNoInstances (members by_names es class) → whole_in f k ≡ Some q → IsMergedKind es roots f m ws k class (kind.TypeItem (ty.Resource q))
  as_other : (x : ItemKind) → AreNoInstances (members by_names es class) → whole_in f k ≡ None → is_instance x ≡ false → resource_itself m x ≡ None → IsMergedKind es roots f m ws k class x

-- Each class is imported once, in this order, under its canonical name.
pub record AreMergedKinds (c : Collection) (es : List Entry) (roots : List (List InterfaceId)) (f : Fresh) (m : Collection) (ids : List (Option Name)) (ws : List InterfaceId) (order : List ℕ) (imports : List Entry) : Type 0 where
  pub each : (k : ℕ) → k < length (class_names by_names es) → (p : ℕ) × (slice_get order p ≡ Some k)
  pub classes : (p k : ℕ) → slice_get order p ≡ Some k → k < length (class_names by_names es)
  pub once : (p q k : ℕ) → slice_get order p ≡ Some k → slice_get order q ≡ Some k → p ≡ q
  pub count : length imports ≡ length order
  pub names : (p k : ℕ) (class : Name) (e : Entry) → slice_get order p ≡ Some k → slice_get (class_names by_names es) k ≡ Some class → slice_get imports p ≡ Some e → e.name ≡ canonical by_names es class
  pub kinds : (p k : ℕ) (class : Name) (e : Entry) → slice_get order p ≡ Some k → slice_get (class_names by_names es) k ≡ Some class → slice_get imports p ≡ Some e → IsMergedKind es roots f m ws k class e.kind
  -- The union of a class has the canonical name as id if an entry's id has the track of the class.
  pub tracked : (k : ℕ) (class : Name) → slice_get (class_names by_names es) k ≡ Some class → list_any (λ e. is_on_track by_names c class e.kind) (members by_names es class) ≡ true → slice_get ids k ≡ Some (Some (canonical by_names es class))
