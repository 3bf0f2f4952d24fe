-- Interfaces united name by name: the unions, their parts and their exports. Only contracts inside the merge cite this
-- file.
use Rattle.std.specs.Prelude.{ℕ, ◌≡◌, ◌<◌, ◌≤◌, Bool, false, is_some, List, [], ◌∷◌, map, length, Option, Some, None, slice_get, Contains}
use Rattle.std.specs.List.{AllZip, list_any}
use Rattle.std.specs.Option.{MatchOption}
use Rattle.wac_types_shapes.specs.primitives.Name.{Name, find_name, option_case}
use Rattle.wac_types_collection.specs.collection.Collection.{Collection, HasInterface, interface_exports, item_at}
use Rattle.wac_types_shapes.specs.declared.shapes.component.InterfaceId.{InterfaceId}
use Rattle.wac_types_shapes.specs.declared.shapes.component.ItemKind.{ItemKind}
use Rattle.wac_types_shapes.specs.declared.shapes.component.ItemKind.TheVariants as kind
use Rattle.wac_types_shapes.specs.declared.shapes.component.«Type».TheVariants as ty
use Rattle.wac_merge_classes.specs.terms.Merge.{names_behind}
use Rattle.wac_merge_classes.specs.entries.Places.{own_resource}
use Rattle.wac_merge_classes.specs.declared.terms.parts.Part.{Part}
use Rattle.wac_merge_classes.specs.declared.terms.parts.Export.{Export}
use Rattle.wac_merge_classes.specs.declared.terms.parts.Union.{Union}

-- The exports of a part's interface.
abbrev pub part_lists : Collection → List Part → ℕ → List (Name × ItemKind)
part_lists c ps p = option_case (slice_get ps p) [] (λ x. interface_exports c x.interface)

-- The parts that export this name, each with what it exports.
abbrev pub listed_under : Collection → List Part → List ℕ → Name → List (ℕ × ItemKind)
listed_under c ps [] n = []
listed_under c ps (p ∷ rest) n = option_case (find_name (part_lists c ps p) n) (listed_under c ps rest n) (λ k. (p, k) ∷ listed_under c ps rest n)

-- The instances among these items.
abbrev pub instances_in : List (ℕ × ItemKind) → List (ℕ × InterfaceId)
instances_in [] = []
instances_in ((p, kind.Instance i) ∷ rest) = (p, i) ∷ instances_in rest
instances_in (e ∷ rest) = instances_in rest

-- The interfaces united under a name: all instances if the first item is one, or the interface of a first type item
-- alone.
abbrev pub united : List (ℕ × ItemKind) → List (ℕ × InterfaceId)
united [] = []
united ((p, kind.Instance i) ∷ rest) = (p, i) ∷ instances_in rest
united ((p, kind.TypeItem (ty.Interface i)) ∷ rest) = (p, i) ∷ []
united (e ∷ rest) = []

-- The part has an own resource under this name.
abbrev pub is_own_of : Collection → List Part → Name → ℕ × ItemKind → Bool
is_own_of c ps n e = option_case (slice_get ps e.0) false (λ x. option_case (item_at c.interfaces x.interface.0) false (λ it. is_some (own_resource c it.uses (n, e.1))))

-- The part of an interface in a union, inside another part if `outer` names one.
abbrev pub part : InterfaceId → Option ℕ → ℕ → Part
part i outer u = record { interface = i; outer = outer; union = u }

-- These are the parts of a union for these interfaces, each inside the part that exports it.
abbrev pub AreParts : List Part → ℕ → List (ℕ × InterfaceId) → List ℕ → Type 0
AreParts ps u is qs = AllZip (λ i q. slice_get ps q ≡ Some (part i.1 (Some i.0) u)) is qs

-- The union of these interfaces comes after the union that exports them. Without interfaces there is none.
abbrev pub IsInner : List Union → List Part → ℕ → List (ℕ × InterfaceId) → Option ℕ → Type 0
IsInner us ps u [] o = o ≡ None
IsInner us ps u (i ∷ is) o = (v : ℕ) × (inner : Union) × (o ≡ Some v) × (u < v) × (slice_get us v ≡ Some inner) × AreParts ps v (i ∷ is) inner.parts.items

-- The export of a union for these items: the first item, whether one is an own resource, and the union of their
-- interfaces.
pub record IsExport (c : Collection) (us : List Union) (ps : List Part) (u : ℕ) (n : Name) (ls : List (ℕ × ItemKind)) (e : Export) : Type 0 where
  pub more : List (ℕ × ItemKind)
  pub first : ls ≡ (e.part, e.kind) ∷ more
  pub own : e.is_own ≡ list_any (is_own_of c ps n) ls
  pub inner : IsInner us ps u (united ls) e.inner

-- The enclosing part of each part has a lower position.
abbrev pub AreAround : List Part → Type 0
AreAround ps = (p o : ℕ) (x : Part) → slice_get ps p ≡ Some x → x.outer ≡ Some o → o < p

-- The position, if there is one, is that of a part.
abbrev pub IsPart : List Part → Option ℕ → Type 0
IsPart ps None = Unit {0}
IsPart ps (Some p) = p < length ps

-- The unions of the interfaces of each class, and of the interfaces that a union exports under one name.
pub record AreUnions (c : Collection) (roots : List (List InterfaceId)) (us : List Union) (ps : List Part) : Type 0 where
  -- The first unions are those of the classes.
  pub rooted : (k : ℕ) (is : List InterfaceId) → slice_get roots k ≡ Some is → (u : Union) × (slice_get us k ≡ Some u) × AllZip (λ i q. slice_get ps q ≡ Some (part i None k)) is u.parts.items
  pub exported : (u : ℕ) (x : Union) (n : Name) → slice_get us u ≡ Some x
      → MatchOption (find_name x.exports n) (listed_under c ps x.parts.items n ≡ []) (λ e. IsExport c us ps u n (listed_under c ps x.parts.items n) e)
  pub ordered : (u : ℕ) (x : Union) → slice_get us u ≡ Some x → map (λ e. e.0) x.exports ≡ names_behind [] (map (part_lists c ps) x.parts.items)
  -- Each part has an interface of the collection, is in the union that names it, and has an enclosing part of lower
  -- position.
  pub held : (p : ℕ) (x : Part) → slice_get ps p ≡ Some x → HasInterface c x.interface
  pub within : (p : ℕ) (x : Part) → slice_get ps p ≡ Some x → (u : Union) × (slice_get us x.union ≡ Some u) × Contains u.parts.items p
  pub around : AreAround ps
  pub placed : (u p : ℕ) (x : Union) → slice_get us u ≡ Some x → Contains x.parts.items p → (y : Part) × (slice_get ps p ≡ Some y) × (y.union ≡ u)
  -- An outermost part is in the union of a class. Any other part is in a later union than its enclosing part.
  pub outermost : (p : ℕ) (x : Part) → slice_get ps p ≡ Some x → x.outer ≡ None → x.union < length roots
  pub inner : (p o : ℕ) (x y : Part) → slice_get ps p ≡ Some x → x.outer ≡ Some o → slice_get ps o ≡ Some y → (length roots ≤ x.union) × (y.union < x.union)
