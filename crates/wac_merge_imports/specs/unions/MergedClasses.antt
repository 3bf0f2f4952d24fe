-- The merged items of classes.
use Rattle.std.specs.Prelude.{ℕ, ◌≡◌, ◌<◌, ◌≤◌, Bool, true, false, List, [], ◌∷◌, ◌++◌, fold, length, map, Option, Some, None, slice_get}
use Rattle.std.specs.List.{list_any}
use Rattle.std.specs.Option.{MatchOption}
use Rattle.wac_types_shapes.specs.primitives.Name.{Name, option_case}
use Rattle.wac_types_collection.specs.collection.Collection.{Collection, item_at}
use Rattle.wac_types_shapes.specs.declared.shapes.component.InterfaceId.{InterfaceId}
use Rattle.wac_types_shapes.specs.declared.shapes.component.ItemKind.{ItemKind}
use Rattle.wac_types_shapes.specs.declared.shapes.component.ItemKind.TheVariants as kind
use Rattle.wac_types_shapes.specs.declared.shapes.component.«Type».TheVariants as ty
use Rattle.wac_merge_classes.specs.entries.Agreement.{Agree, compared}
use Rattle.wac_merge_classes.specs.entries.Bindings.{ClassBindings}
use Rattle.wac_merge_classes.specs.entries.Classes.{Entry, by_names, same_class, class_names, members, names_instance, canonical}
use Rattle.wac_merge_classes.specs.terms.Became.{became, whole_in}
use Rattle.wac_merge_classes.specs.terms.Merge.{is_on_track}
use Rattle.wac_merge_classes.specs.terms.Unions.{AreUnions}
use Rattle.wac_merge_classes.specs.terms.Writing.{AreWritten, IsWrittenAs}
use Rattle.wac_merge_classes.specs.declared.terms.parts.Part.{Part}
use Rattle.wac_merge_classes.specs.declared.terms.parts.Union.{Union}
use Rattle.wac_merge_classes.specs.declared.terms.fresh.Fresh.{Fresh}

-- Any two entries of one class agree.
abbrev pub AreAgreed : Collection → List Entry → Type 0
AreAgreed c es = (i j : ℕ) (a b : Entry) → i < j → slice_get es i ≡ Some a → slice_get es j ≡ Some b → same_class by_names es a.name b.name ≡ true
    → Agree (compared by_names c es a.name a.kind) (compared by_names c es a.name b.kind)

-- The interfaces to unite, after one more entry: all those of instances, or the first of a type item.
abbrev pub with_root : List InterfaceId → ItemKind → List InterfaceId
with_root is (kind.Instance i) = is ++ i ∷ []
with_root [] (kind.TypeItem (ty.Interface i)) = i ∷ []
with_root is k = is

-- The interfaces that a class unites.
abbrev pub class_roots : List Entry → Name → List InterfaceId
class_roots es class = fold with_root [] (map (λ e. e.kind) (members by_names es class))

-- Each class has the interfaces that it unites.
pub record AreRoots (es : List Entry) (roots : List (List InterfaceId)) : Type 0 where
  pub counted : length roots ≡ length (class_names by_names es)
  pub each : (k : ℕ) (class : Name) (is : List InterfaceId) → slice_get (class_names by_names es) k ≡ Some class → slice_get roots k ≡ Some is → is ≡ class_roots es class

-- The unions are those of the interfaces of each class.
pub record AreClassUnions (c : Collection) (es : List Entry) (us : List Union) (ps : List Part) : Type 0 where
  pub roots : List (List InterfaceId)
  pub rooted : AreRoots es roots
  pub unions : AreUnions c roots us ps

-- The id of the interface of the first part of a union.
abbrev pub first_id : Collection → List Part → List ℕ → Option Name
first_id c ps [] = None
first_id c ps (p ∷ rest) = option_case (slice_get ps p) None (λ x. option_case (item_at c.interfaces x.interface.0) None (λ it. it.id))

-- The id of a class is its canonical name if an entry's id has its track, else the id of its union's first part.
abbrev pub IsClassId : Collection → List Entry → List Part → Name → List ℕ → Option Name → Type 0
IsClassId c es ps class parts o =
    ((list_any (λ e. is_on_track by_names c class e.kind) (members by_names es class) ≡ true) → o ≡ Some (canonical by_names es class))
    × ((list_any (λ e. is_on_track by_names c class e.kind) (members by_names es class) ≡ false) → o ≡ first_id c ps parts)

-- The id of a union is that of its class, or of its first part if it is nested.
abbrev pub IsUnionId : Collection → List Entry → List Part → ℕ → Union → Option Name → Type 0
IsUnionId c es ps u x o =
    ((class : Name) → slice_get (class_names by_names es) u ≡ Some class → IsClassId c es ps class x.parts.items o)
    × (length (class_names by_names es) ≤ u → o ≡ first_id c ps x.parts.items)

-- Each union has its id.
pub record AreIds (c : Collection) (es : List Entry) (us : List Union) (ps : List Part) (ids : List (Option Name)) : Type 0 where
  pub counted : length ids ≡ length us
  pub classes : (k : ℕ) (class : Name) (x : Union) (o : Option Name) → slice_get (class_names by_names es) k ≡ Some class → slice_get us k ≡ Some x → slice_get ids k ≡ Some o → IsClassId c es ps class x.parts.items o
  pub inner : (u : ℕ) (x : Union) (o : Option Name) → length (class_names by_names es) ≤ u → slice_get us u ≡ Some x → slice_get ids u ≡ Some o → o ≡ first_id c ps x.parts.items

-- The merged item of a class: its new resource, or else the item of this entry, rewritten outside all parts.
abbrev pub IsClassKind : Collection → Collection → List Part → ClassBindings → Fresh → List InterfaceId → ℕ → Entry → ItemKind → Type 0
IsClassKind c m ps bs f ws k e l = MatchOption (whole_in f k)
    (IsWrittenAs c m (became c ps bs f None) (slice_get ws k) e.name e.kind l)
    (λ q. l ≡ kind.TypeItem (ty.Resource q))

-- The imports are the classes in this order, each under its canonical name.
-- The item of each is the merged item of an entry with that name.
pub record AreImports (c m : Collection) (es : List Entry) (ps : List Part) (bs : ClassBindings) (f : Fresh) (ws : List InterfaceId) (order : List ℕ) (imports : List Entry) : Type 0 where
  pub counted : length imports ≡ length order
  pub each : (p k : ℕ) (class : Name) (x : Entry) → slice_get order p ≡ Some k → slice_get (class_names by_names es) k ≡ Some class → slice_get imports p ≡ Some x
      → (i : ℕ) × (e : Entry) × (slice_get es i ≡ Some e) × (same_class by_names es class e.name ≡ true) × (e.name ≡ canonical by_names es class) × (x.name ≡ e.name) × IsClassKind c m ps bs f ws k e x.kind
  -- A class whose name no instance has gets the merged item of its first entry.
  pub firsts : (p k : ℕ) (class : Name) (x e : Entry) (more : List Entry) → slice_get order p ≡ Some k → slice_get (class_names by_names es) k ≡ Some class → slice_get imports p ≡ Some x
      → names_instance es class ≡ false → members by_names es class ≡ e ∷ more → IsClassKind c m ps bs f ws k e x.kind

-- Each union was written under its id, and the imports are the merged items of the classes.
pub record AreWrittenImports (c m : Collection) (es : List Entry) (us : List Union) (ps : List Part) (bs : ClassBindings) (f : Fresh) (order : List ℕ) (imports : List Entry) : Type 0 where
  pub ids : List (Option Name)
  pub ws : List InterfaceId
  pub identified : AreIds c es us ps ids
  pub written : AreWritten c m us ps bs f ids ws
  pub imported : AreImports c m es ps bs f ws order imports

-- For each class, whether an entry is an instance whose interface id has the track of the class.
abbrev pub AreOnTrack : Collection → List Entry → List Bool → Type 0
AreOnTrack c es on = (length on ≡ length (class_names by_names es)) × ((k : ℕ) (class : Name) (b : Bool) → slice_get (class_names by_names es) k ≡ Some class → slice_get on k ≡ Some b
    → b ≡ list_any (λ e. is_on_track by_names c class e.kind) (members by_names es class))
