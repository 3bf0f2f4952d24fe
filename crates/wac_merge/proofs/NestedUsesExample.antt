-- A worked example: what an instance inside an import of a merge uses, and what it may not drop.
use Rattle.std.proofs.Common.{◌≡◌, ℕ, zero, suc, true, false, cond, inl, inr, List, [], ◌∷◌, take, slice_get, Option, Some, None, codes, refl, sym, ap, ◌∙◌, subst, arith}
use Rattle.std.specs.Prelude.{◌⊎◌}
use Rattle.std.proofs.lemmas.Bool.{cases_Bool, false≢true}
use Rattle.semver.specs.Parse.{digits_from, scan}
use Rattle.wac_names.specs.Text.{after, before, has}
use Rattle.wac_names.specs.Track.{parts_piece, series}
use Rattle.wac_names.specs.Reading.{is_interface_name, is_label, is_lower_label, is_package, read_track, read_version, version_piece}
use Rattle.wac_types_shapes.specs.primitives.Name.{Name, find_name, same_name}
use Rattle.wac_types_shapes.proofs.lemmas.shapes.Names.{same_name-true}
use Rattle.wac_types_shapes.specs.declared.shapes.component.Interface.{Interface}
use Rattle.wac_types_shapes.specs.declared.shapes.component.InterfaceId.{InterfaceId}
use Rattle.wac_types_shapes.specs.declared.shapes.component.ItemKind.{ItemKind}
use Rattle.wac_types_shapes.specs.declared.shapes.component.ItemKind.TheVariants as kind
use Rattle.wac_types_shapes.specs.declared.primitives.component.PrimitiveType.TheVariants as primitive
use Rattle.wac_types_shapes.specs.declared.shapes.component.UsedType.{UsedType}
use Rattle.wac_types_shapes.specs.declared.shapes.component.ValueType.TheVariants as val
use Rattle.wac_types_shapes.specs.declared.shapes.component.«Type».TheVariants as ty
use Rattle.wac_types_collection.specs.collection.Collection.{Collection, item_at}
use Rattle.wac_types_collection.specs.declared.collection.collection.Held.{Held}
use Rattle.wac_merge_classes.specs.entries.Classes.{Entry, by_names, is_instance, members}
use Rattle.wac_merge_classes.specs.terms.Merge.{Merged}
use Rattle.wac_merge_classes.proofs.lemmas.terms.Found.{no_some, some_same}
use Rattle.wac_merge_unions.specs.uses.KeptUses.{AreKept, IsFirstKept, KeepsUses, StandsIn, as_import, inside, instances, uses_of}
use Rattle.wac_merge_unions.specs.uses.United.{instances_of, listed_by}
use Rattle.wac_merge_unions.specs.uses.Using.{kept_uses}
use Rattle.wac_merge_unions.proofs.lemmas.uses.FirstKept.{kept-first}

abbrev id : ℕ → InterfaceId
id i = record { 0 = i }

-- a type item, a byte
abbrev t_item : Name × ItemKind
t_item = (codes "t", kind.TypeItem (ty.Value (val.Primitive primitive.U8)))

-- the type `t` of an interface, under its name
abbrev t_of : ℕ → List (Name × UsedType)
t_of i = (codes "t", record { interface = id i; name = None }) ∷ []

-- the first interface lists `t`
abbrev first_interface : ℕ → Held Interface
first_interface before = record { item = record { id = Some (codes "a:b/a"); uses = []; exports = t_item ∷ [] }; before = before }

-- an interface without id uses types, and lists `t`
abbrev inner_interface : List (Name × UsedType) → ℕ → Held Interface
inner_interface uses before = record { item = record { id = None; uses = uses; exports = t_item ∷ [] }; before = before }

-- the instance that the second lists
abbrev x_item : ℕ → List (Name × ItemKind)
x_item i = (codes "x", kind.Instance (id i)) ∷ []

-- the second lists an instance as `x`
abbrev outer_interface : ℕ → ℕ → Held Interface
outer_interface i before = record { item = record { id = Some (codes "a:b/b"); uses = []; exports = x_item i }; before = before }

abbrev collection_of : List (Held Interface) → Collection
collection_of is = record { resources = []; funcs = []; defined = []; modules = []; interfaces = is; worlds = [] }

-- the instance in the second uses the type of the first
abbrev asked_interfaces : List (Held Interface) → List (Held Interface)
asked_interfaces more = first_interface 0 ∷ inner_interface (t_of 0) 1 ∷ outer_interface 1 2 ∷ more

abbrev types : Collection
types = collection_of (asked_interfaces [])

abbrev instance : Name → ℕ → Entry
instance n i = record { name = n; kind = kind.Instance (id i) }

-- instances of both are asked for
abbrev asked : List Entry
asked = instance (codes "a:b/a") 0 ∷ instance (codes "a:b/b") 2 ∷ []

-- they are imported, and the instance in the second uses these
abbrev merge_using : List (Name × UsedType) → Merged
merge_using uses = record {
  types = collection_of (asked_interfaces (first_interface 3 ∷ inner_interface uses 4 ∷ outer_interface 4 5 ∷ []));
  imports = instance (codes "a:b/a") 3 ∷ instance (codes "a:b/b") 5 ∷ [];
}

-- it uses the type of what the first is imported as
abbrev whole : Merged
whole = merge_using (t_of 3)

-- ---- kept

abbrev UsesKept : ℕ → List InterfaceId → Interface → Type 0
UsesKept p is it = it.uses ≡ kept_uses by_names types asked whole.types (take p whole.imports) it.exports (uses_of types is)

first_uses : UsesKept 0 (id 0 ∷ []) (first_interface 3).item
unfolding read_track read_version is_interface_name parts_piece version_piece series has before after is_label is_lower_label is_package digits_from scan
first_uses = refl

outer_uses : UsesKept 1 (id 2 ∷ []) (outer_interface 4 5).item
unfolding read_track read_version is_interface_name parts_piece version_piece series has before after is_label is_lower_label is_package digits_from scan
outer_uses = refl

inner_uses : UsesKept 1 (id 1 ∷ []) (inner_interface (t_of 3) 4).item
unfolding read_track read_version is_interface_name parts_piece version_piece series has before after is_label is_lower_label is_package digits_from scan
inner_uses = refl

first_members : instances (members by_names asked (codes "a:b/a")) ≡ id 0 ∷ []
unfolding read_track read_version is_interface_name parts_piece version_piece series has before after is_label is_lower_label is_package digits_from scan
first_members = refl

second_members : instances (members by_names asked (codes "a:b/b")) ≡ id 2 ∷ []
unfolding read_track read_version is_interface_name parts_piece version_piece series has before after is_label is_lower_label is_package digits_from scan
second_members = refl

abbrev IsThat : ℕ → ℕ → List InterfaceId → ℕ → InterfaceId → List InterfaceId → Type 0
IsThat q i js p w is = (q ≡ p) × (id i ≡ w) × (js ≡ is)

-- the imports, and the instance inside the second
abbrev IsAt : ℕ → InterfaceId → List InterfaceId → Type 0
IsAt p w is = IsThat 0 3 (id 0 ∷ []) p w is ⊎ (IsThat 1 5 (id 2 ∷ []) p w is ⊎ IsThat 1 4 (id 1 ∷ []) p w is)

interface_id : ItemKind → InterfaceId
interface_id (kind.Instance i) = i
interface_id k = id 0

-- no instance stands beside a type alone
none-beside : (n : Name) (v : InterfaceId) → find_name (t_item ∷ []) n ≡ Some (kind.Instance v) → ⊥
none-beside n v found = elim (cases_Bool (same_name n (codes "t"))) [
  | inl t ↦ false≢true (ap is_instance (some_same (t_item).1 (kind.Instance v) (sym (ap (λ b. cond b (Some (t_item).1) None) t) ∙ found)))
  | inr f ↦ no_some (kind.Instance v) (sym (ap (λ b. cond b (Some (t_item).1) None) f) ∙ found)
]

-- under `x` alone stands the instance
only-x : (v : InterfaceId) (n : Name) → find_name (x_item 4) n ≡ Some (kind.Instance v) → (id 4 ≡ v) × (codes "x" ≡ n)
unfolding interface_id
only-x v n found = elim (cases_Bool (same_name n (codes "x"))) [
  | inl t ↦ (ap interface_id (some_same (kind.Instance (id 4)) (kind.Instance v) (sym (ap (λ b. cond b (Some (kind.Instance (id 4))) None) t) ∙ found)), sym (same_name-true n (codes "x") t))
  | inr f ↦ absurd (no_some (kind.Instance v) (sym (ap (λ b. cond b (Some (kind.Instance (id 4))) None) f) ∙ found))
]

is-at : (p : ℕ) (w : InterfaceId) (is : List InterfaceId) → StandsIn by_names types asked whole p w is → IsAt p w is
unfolding interface_id
is-at zero w is (as_import e _ at is_kind) =
    let one : instance (codes "a:b/a") 3 ≡ e = some_same (instance (codes "a:b/a") 3) e at in
    inl (refl, ap (λ (x : Entry). interface_id x.kind) one ∙ ap interface_id is_kind, sym first_members ∙ ap (λ (x : Entry). instances (members by_names asked x.name)) one)
is-at (suc zero) w is (as_import e _ at is_kind) =
    let one : instance (codes "a:b/b") 5 ≡ e = some_same (instance (codes "a:b/b") 5) e at in
    inr (inl (refl, ap (λ (x : Entry). interface_id x.kind) one ∙ ap interface_id is_kind, sym second_members ∙ ap (λ (x : Entry). instances (members by_names asked x.name)) one))
is-at (suc (suc p)) w is (as_import e _ at is_kind) = absurd (no_some e at)
is-at p w is (inside x _ js it n around at found) = by (is-at p x js around) where
  place : (i : ℕ) (here : Interface) → id i ≡ x → item_at whole.types.interfaces i ≡ Some here → here ≡ it
  place i here same held = some_same here it (sym held ∙ (ap (λ (y : InterfaceId). item_at whole.types.interfaces y.0) same ∙ at))

  by : IsAt p x js → IsAt p w (instances_of (listed_by types js n))
  by (inl (at_p, same, all)) = absurd (none-beside n w (ap (λ (y : Interface). find_name y.exports n) (place 3 (first_interface 3).item same refl) ∙ found))
  by (inr (inl (at_p, same, all))) =
      let that = only-x w n (ap (λ (y : Interface). find_name y.exports n) (place 5 (outer_interface 4 5).item same refl) ∙ found) in
      inr (inr (at_p, that.0, ap (λ name. instances_of (listed_by types (id 2 ∷ []) name)) that.1 ∙ ap (λ is. instances_of (listed_by types is n)) all))
  by (inr (inr (at_p, same, all))) = absurd (none-beside n w (ap (λ (y : Interface). find_name y.exports n) (place 4 (inner_interface (t_of 3) 4).item same refl) ∙ found))

-- the use of the instance inside is kept, of what the first interface is imported as
pub are_kept : KeepsUses by_names types asked whole
are_kept p w is it stands at =
    let us = uses_of types is in
    subst (AreKept by_names types asked whole.types (take p whole.imports) it.exports us) (sym (by (is-at p w is stands))) (kept-first by_names types asked whole.types (take p whole.imports) it.exports us) where
      that : (q i : ℕ) (js : List InterfaceId) (here : Interface) → IsThat q i js p w is → item_at whole.types.interfaces i ≡ Some here → UsesKept q js here → UsesKept p is it
      that q i js here (at_p, same, all) held kept =
          let one : here ≡ it = some_same here it (sym held ∙ (ap (λ (y : InterfaceId). item_at whole.types.interfaces y.0) same ∙ at)) in
          subst (λ n. UsesKept n is it) at_p (subst (λ ks. UsesKept q ks it) all (subst (UsesKept q js) one kept))

      by : IsAt p w is → UsesKept p is it
      by (inl h) = that 0 3 (id 0 ∷ []) (first_interface 3).item h refl first_uses
      by (inr (inl h)) = that 1 5 (id 2 ∷ []) (outer_interface 4 5).item h refl outer_uses
      by (inr (inr h)) = that 1 4 (id 1 ∷ []) (inner_interface (t_of 3) 4).item h refl inner_uses

-- ---- not dropped

module _ (uses : List (Name × UsedType)) (keeps : KeepsUses by_names types asked (merge_using uses)) where
  stands : StandsIn by_names types asked (merge_using uses) 1 (id 4) (id 1 ∷ [])
  stands =
      let around : StandsIn by_names types asked (merge_using uses) 1 (id 5) (id 2 ∷ []) = subst (StandsIn by_names types asked (merge_using uses) 1 (id 5)) second_members (as_import (instance (codes "a:b/b") 5) (id 5) refl refl) in
      inside (id 5) (id 4) (id 2 ∷ []) (outer_interface 4 5).item (codes "x") around refl refl

  are : AreKept by_names types asked (merge_using uses).types (take 1 (merge_using uses).imports) (t_item ∷ []) (t_of 0) uses
  are = keeps 1 (id 4) (id 1 ∷ []) (inner_interface uses 4).item stands refl

  t_is : IsFirstKept by_names types asked (merge_using uses).types (take 1 (merge_using uses).imports) (t_item ∷ []) (t_of 0) 0 (codes "t") (record { interface = id 3; name = None })
  unfolding read_track read_version is_interface_name parts_piece version_piece series has before after is_label is_lower_label is_package digits_from scan
  t_is = record {
    use_there = record { interface = id 0; name = None };
    at = refl;
    kept = record { before = refl; named = refl; own = refl; identified = refl; there = refl; alike = refl };
    first = λ j u less at. absurd (omega (arith, less));
  }

  t_stands : (p : ℕ) × (slice_get uses p ≡ Some (codes "t", record { interface = id 3; name = None }))
  t_stands = (are.each (codes "t") (record { interface = id 3; name = None })).1 (0, t_is)

-- the use may not be dropped
pub no_inner_use_dropped : KeepsUses by_names types asked (merge_using []) → ⊥
no_inner_use_dropped keeps = no_some _ (t_stands [] keeps).1

-- nor stay one of the interface that was asked for
pub no_inner_use_as_asked : KeepsUses by_names types asked (merge_using (t_of 0)) → ⊥
no_inner_use_as_asked keeps = let at = t_stands (t_of 0) keeps in by at.0 at.1 where
  number : Option (Name × UsedType) → ℕ
  number None = 0
  number (Some e) = (e.1).interface.0

  three : (i : ℕ) → i ≡ 0 → i ≡ 3 → ⊥
  three i one other = omega (arith, one, other)

  by : (p : ℕ) → slice_get (t_of 0) p ≡ Some (codes "t", record { interface = id 3; name = None }) → ⊥
  by zero is = three 0 refl (ap number is)
  by (suc p) is = no_some _ is
