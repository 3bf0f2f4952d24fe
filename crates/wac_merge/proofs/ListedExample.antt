-- A worked example: what is nested in the imports of a merge is listed in order of first appearance, and in no other.
use Rattle.std.proofs.Common.{◌≡◌, inl, inr, ℕ, zero, suc, Bool, true, false, cond, List, [], ◌∷◌, map, Some, None, codes, refl, sym, ap, ◌∙◌}
use Rattle.std.specs.Prelude.{◌⊎◌}
use Rattle.std.specs.List.{AllByRecursion}
use Rattle.std.proofs.lemmas.Bool.{cases_Bool, false≢true}
use Rattle.wac_types_shapes.specs.primitives.Name.{Name, find_name, same_name}
use Rattle.wac_types_shapes.proofs.lemmas.shapes.Names.{same_name-true}
use Rattle.wac_types_shapes.specs.declared.shapes.component.Interface.{Interface}
use Rattle.wac_types_shapes.specs.declared.shapes.component.InterfaceId.{InterfaceId}
use Rattle.wac_types_shapes.specs.declared.shapes.component.ItemKind.{ItemKind}
use Rattle.wac_types_shapes.specs.declared.shapes.component.ItemKind.TheVariants as kind
use Rattle.wac_types_shapes.specs.declared.primitives.component.PrimitiveType.TheVariants as primitive
use Rattle.wac_types_shapes.specs.declared.shapes.component.ValueType.TheVariants as val
use Rattle.wac_types_shapes.specs.declared.shapes.component.«Type».TheVariants as ty
use Rattle.wac_types_collection.specs.collection.Collection.{Collection, interface_exports, item_at}
use Rattle.wac_types_collection.specs.declared.collection.collection.Held.{Held}
use Rattle.wac_merge_classes.specs.entries.Classes.{Entry, by_names, members}
use Rattle.wac_merge_classes.specs.terms.Merge.{Merged, names_behind}
use Rattle.wac_merge_classes.proofs.lemmas.terms.Found.{no_some, some_same}
use Rattle.wac_merge.specs.Listed.{AreListedInOrder, Unites, as_import, inside, interface_in, united_interfaces}
use Rattle.wac_merge_unions.specs.uses.United.{listed_by}

-- a type item, a byte
abbrev byte_type : Name → Name × ItemKind
byte_type n = (n, kind.TypeItem (ty.Value (val.Primitive primitive.U8)))

abbrev id : ℕ → InterfaceId
id i = record { 0 = i }

abbrev nested : ℕ → List (Name × ItemKind)
nested i = (codes "x", kind.Instance (id i)) ∷ []

abbrev interface_of : List (Name × ItemKind) → ℕ → Held Interface
interface_of exports before = record { item = record { id = None; uses = []; exports = exports }; before = before }

abbrev listing : List (Held Interface) → Collection
listing is = record { resources = []; funcs = []; defined = []; modules = []; interfaces = is; worlds = [] }

-- two interfaces list an instance, in which the first lists `b` and `a`, and the second `a` and `c`
abbrev asked_interfaces : List (Held Interface) → List (Held Interface)
asked_interfaces more = interface_of (byte_type (codes "b") ∷ byte_type (codes "a") ∷ []) 0 ∷ interface_of (nested 0) 1 ∷ interface_of (byte_type (codes "a") ∷ byte_type (codes "c") ∷ []) 2 ∷ interface_of (nested 2) 3 ∷ more

abbrev types : Collection
types = listing (asked_interfaces [])

abbrev instance : ℕ → Entry
instance i = record { name = codes "i"; kind = kind.Instance (id i) }

-- both are asked for under one name
abbrev asked : List Entry
asked = instance 1 ∷ instance 3 ∷ []

-- they are imported as an interface that lists an instance which lists these
abbrev merge_listing : List (Name × ItemKind) → Merged
merge_listing exports = record { types = listing (asked_interfaces (interface_of exports 4 ∷ interface_of (nested 4) 5 ∷ [])); imports = instance 5 ∷ [] }

abbrev b_a_c : List (Name × ItemKind)
b_a_c = byte_type (codes "b") ∷ byte_type (codes "a") ∷ byte_type (codes "c") ∷ []

-- ---- in order of first appearance

-- the import unites both, and the instance inside what they list
abbrev IsAt : InterfaceId → List InterfaceId → Type 0
IsAt w is = ((id 5 ≡ w) × (id 1 ∷ id 3 ∷ [] ≡ is)) ⊎ ((id 4 ≡ w) × (id 0 ∷ id 2 ∷ [] ≡ is))

-- under no name stands an interface, where none stands among the items
none-inside : (xs : List (Name × ItemKind)) → AllByRecursion (λ e. interface_in e.1 ≡ None) xs → (n : Name) (k : ItemKind) → find_name xs n ≡ Some k → interface_in k ≡ None
none-inside [] all n k at = absurd (no_some k at)
none-inside (x ∷ xs) all n k at = elim (cases_Bool (same_name n x.0)) [
  | inl t ↦ ap interface_in (sym (some_same x.1 k (sym (ap (λ b. cond b (Some x.1) (find_name xs n)) t) ∙ at))) ∙ all.0
  | inr f ↦ none-inside xs all.1 n k (sym (ap (λ b. cond b (Some x.1) (find_name xs n)) f) ∙ at)
]

-- under `x` alone stands the instance
only-x : (v : InterfaceId) (n : Name) (k : ItemKind) → find_name (nested 4) n ≡ Some k → interface_in k ≡ Some v → (id 4 ≡ v) × (codes "x" ≡ n)
only-x v n k at inner = elim (cases_Bool (same_name n (codes "x"))) [
  | inl t ↦
      let is : kind.Instance (id 4) ≡ k = some_same (kind.Instance (id 4)) k (sym (ap (λ b. cond b (Some (kind.Instance (id 4))) None) t) ∙ at) in
      (some_same (id 4) v (ap interface_in is ∙ inner), sym (same_name-true n (codes "x") t))
  | inr f ↦ absurd (no_some k (sym (ap (λ b. cond b (Some (kind.Instance (id 4))) None) f) ∙ at))
]

is-at : (w : InterfaceId) (is : List InterfaceId) → Unites by_names types asked (merge_listing b_a_c) w is → IsAt w is
is-at w is (as_import zero e x at inner) =
    let one : instance 5 ≡ e = some_same (instance 5) e at in
    inl (some_same (id 5) w (ap (λ (y : Entry). interface_in y.kind) one ∙ inner), ap (λ (y : Entry). united_interfaces (map (λ (z : Entry). z.kind) (members by_names asked y.name))) one)
is-at w is (as_import (suc p) e x at inner) = absurd (no_some e at)
is-at w is (inside x v js it n k around at found inner) = by (is-at x js around) where
  at-place : (i : ℕ) (here : Interface) → id i ≡ x → item_at (merge_listing b_a_c).types.interfaces i ≡ Some here → here ≡ it
  at-place i here same held = some_same here it (sym held ∙ (ap (λ (y : InterfaceId). item_at (merge_listing b_a_c).types.interfaces y.0) same ∙ at))

  by : IsAt x js → IsAt w is
  by (inl (same, all)) =
      let one = at-place 5 (interface_of (nested 4) 5).item same refl in
      let w = only-x v n k (ap (λ (y : Interface). find_name y.exports n) one ∙ found) inner in
      inr (w.0, ap (λ name. united_interfaces (listed_by types (id 1 ∷ id 3 ∷ []) name)) w.1 ∙ ap (λ is. united_interfaces (listed_by types is n)) all)
  by (inr (same, all)) =
      let one = at-place 4 (interface_of b_a_c 4).item same refl in
      absurd (no_some v (sym (none-inside b_a_c (refl, (refl, (refl, tt))) n k (ap (λ (y : Interface). find_name y.exports n) one ∙ found)) ∙ inner))

pub are_listed : AreListedInOrder by_names types asked (merge_listing b_a_c)
are_listed w is it united at = by (is-at w is united) where
  at-place : (i : ℕ) (here : Interface) (js : List InterfaceId) → id i ≡ w → js ≡ is → item_at (merge_listing b_a_c).types.interfaces i ≡ Some here → map (λ e. e.0) here.exports ≡ names_behind [] (map (interface_exports types) js)
      → map (λ e. e.0) it.exports ≡ names_behind [] (map (interface_exports types) is)
  at-place i here js same all held listed =
      let one : here ≡ it = some_same here it (sym held ∙ (ap (λ (y : InterfaceId). item_at (merge_listing b_a_c).types.interfaces y.0) same ∙ at)) in
      ap (λ (y : Interface). map (λ e. e.0) y.exports) (sym one) ∙ (listed ∙ ap (λ js. names_behind [] (map (interface_exports types) js)) all)

  by : IsAt w is → map (λ e. e.0) it.exports ≡ names_behind [] (map (interface_exports types) is)
  by (inl (same, all)) = at-place 5 (interface_of (nested 4) 5).item (id 1 ∷ id 3 ∷ []) same all refl refl
  by (inr (same, all)) = at-place 4 (interface_of b_a_c 4).item (id 0 ∷ id 2 ∷ []) same all refl refl

-- ---- in no other

-- the name that comes first
abbrev begins_with : Name → List Name → Bool
begins_with n [] = false
begins_with n (o ∷ ns) = same_name o n

abbrev ends : List Name → Bool
ends [] = true
ends (n ∷ ns) = false

abbrev behind_two : List Name → List Name
behind_two (n ∷ o ∷ ns) = ns
behind_two ns = []

module _ (exports : List (Name × ItemKind)) (ordered : AreListedInOrder by_names types asked (merge_listing exports)) where
  inner-names : map (λ e. e.0) exports ≡ codes "b" ∷ codes "a" ∷ codes "c" ∷ []
  inner-names =
      let around : Unites by_names types asked (merge_listing exports) (id 5) (id 1 ∷ id 3 ∷ []) = as_import 0 (instance 5) (id 5) refl refl in
      let at : Unites by_names types asked (merge_listing exports) (id 4) (id 0 ∷ id 2 ∷ []) = inside (id 5) (id 4) (id 1 ∷ id 3 ∷ []) (interface_of (nested 4) 5).item (codes "x") (kind.Instance (id 4)) around refl refl refl in
      ordered (id 4) (id 0 ∷ id 2 ∷ []) (interface_of exports 4).item at refl

-- not by name
pub no_order_by_name : AreListedInOrder by_names types asked (merge_listing (byte_type (codes "a") ∷ byte_type (codes "b") ∷ byte_type (codes "c") ∷ [])) → ⊥
no_order_by_name ordered = false≢true (sym (ap (begins_with (codes "a")) (inner-names (byte_type (codes "a") ∷ byte_type (codes "b") ∷ byte_type (codes "c") ∷ []) ordered)))

-- nor what one of them lists alone
pub no_first_alone : AreListedInOrder by_names types asked (merge_listing (byte_type (codes "b") ∷ byte_type (codes "a") ∷ [])) → ⊥
no_first_alone ordered = false≢true (sym (ap (λ ns. ends (behind_two ns)) (inner-names (byte_type (codes "b") ∷ byte_type (codes "a") ∷ []) ordered)))
