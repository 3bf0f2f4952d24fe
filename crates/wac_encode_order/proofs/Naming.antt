-- The first items that name types.
use Rattle.std.specs.Prelude.{◌==◌, ◌≢◌, slice_get}
use Rattle.std.specs.Option.{option_map, unwrap_or}
use Rattle.std.proofs.Common.{ℕ, ◌+◌, ◌<◌, ◌≡◌, inl, inr, Bool, true, false, List, Option, Some, None, length, replicate, refl, ap, sym, ◌∙◌, subst, arith}
use Rattle.std.proofs.lemmas.Bool.{eqb-true}
use Rattle.std.proofs.lemmas.List.{length-replicate, get_or-replicate}
use Rattle.std.proofs.lemmas.Option.{get_or_from_slice_get}
use Rattle.wac_types_shapes.specs.primitives.Name.{Name}
use Rattle.wac_types_shapes.specs.declared.shapes.component.ItemKind.{ItemKind}
use Rattle.wac_types_shapes.specs.declared.shapes.component.ItemKind.TheVariants as kind
use Rattle.wac_types_shapes.specs.declared.shapes.component.ValueType.TheVariants as val
use Rattle.wac_types_shapes.specs.declared.shapes.component.«Type».{«Type» as AnyType}
use Rattle.wac_types_shapes.specs.declared.shapes.component.«Type».TheVariants as ty
use Rattle.wac_types_collection.specs.collection.Collection.{Collection}
use Rattle.wac_types_collection.specs.collection.Aliases.{type_resolved}
use Rattle.wac_types_collection.specs.reach.Reach.{IsIn}
use Rattle.wac_encode_order.specs.private.TypeItems.{with_id, named_type, NamesAt, IsTypeItemAt}
use Rattle.wac_encode_order.specs.private.Graph.{AreReached, IsFirst, AreNamed, listed_type}
use Rattle.wac_encode_order.proofs.Lists.{some-is, within, there-is, below-or-last, second-is}

-- ---- an item that names a type is a type item
id-is : (t u : AnyType) → with_id t ≡ Some u → t ≡ u
id-is (ty.Value (val.Primitive p)) u e = let none_some : None ≡ Some u = e in cc
id-is (ty.Value (val.Own r)) u e = let none_some : None ≡ Some u = e in cc
id-is (ty.Value (val.Borrow r)) u e = let none_some : None ≡ Some u = e in cc
id-is (ty.Value (val.Defined d)) u e = some-is (ty.Value (val.Defined d)) u e
id-is (ty.Resource r) u e = some-is (ty.Resource r) u e
id-is (ty.Func f) u e = some-is (ty.Func f) u e
id-is (ty.Interface i) u e = some-is (ty.Interface i) u e
id-is (ty.World w) u e = some-is (ty.World w) u e
id-is (ty.Module m) u e = some-is (ty.Module m) u e

pub named-is : (c : Collection) (k : ItemKind) (u : AnyType) → named_type c k ≡ Some u → (t : AnyType) × (k ≡ kind.TypeItem t) × (type_resolved c t ≡ u)
named-is c (kind.TypeItem t) u e = (t, refl, id-is (type_resolved c t) u e)
named-is c (kind.Func f) u e = let none_some : None ≡ Some u = e in cc
named-is c (kind.Instance i) u e = let none_some : None ≡ Some u = e in cc
named-is c (kind.Component w) u e = let none_some : None ≡ Some u = e in cc
named-is c (kind.Module m) u e = let none_some : None ≡ Some u = e in cc
named-is c (kind.Value v) u e = let none_some : None ≡ Some u = e in cc

pub names-item : (c : Collection) (es : List (Name × ItemKind)) (p : ℕ) (u : AnyType) → NamesAt c es p u → (t : AnyType) × IsTypeItemAt es p t × (type_resolved c t ≡ u)
names-item c es p u names =
    let is = named-is c names.0.1 u names.2 in
    (is.0, (names.0.0, names.1 ∙ ap (λ (k : ItemKind). Some (names.0.0, k)) is.1), is.2)

-- ---- a type item, by its value
pub item-here : (es : List (Name × ItemKind)) (n : ℕ) (k : ItemKind) (t : AnyType) → option_map (λ e. e.1) (slice_get es n) ≡ Some k → k ≡ kind.TypeItem t → IsTypeItemAt es n t
item-here es n k t at is = let entry = second-is es n k at in (entry.0.0, entry.1 ∙ ap (λ (j : ItemKind). Some (entry.0.0, j)) (entry.2 ∙ is))

abbrev type_item : Name → AnyType → Name × ItemKind
type_item n t = (n, kind.TypeItem t)

pub item-one : (es : List (Name × ItemKind)) (n : ℕ) (t s : AnyType) → IsTypeItemAt es n t → IsTypeItemAt es n s → s ≡ t
item-one es n t s one other = same s t (ap (λ (x : Name × ItemKind). x.1) (some-is (type_item other.0 s) (type_item one.0 t) (sym other.1 ∙ one.1)))
  where
    same : (s t : AnyType) → kind.TypeItem s ≡ kind.TypeItem t → s ≡ t
    same s t e = cc

-- the type of a type item
pub listed-is : (k : ItemKind) (t : AnyType) → listed_type k ≡ Some t → k ≡ kind.TypeItem t
listed-is (kind.TypeItem u) t e = ap kind.TypeItem (some-is u t e)
listed-is (kind.Func f) t e = let none_some : None ≡ Some t = e in cc
listed-is (kind.Instance i) t e = let none_some : None ≡ Some t = e in cc
listed-is (kind.Component w) t e = let none_some : None ≡ Some t = e in cc
listed-is (kind.Module m) t e = let none_some : None ≡ Some t = e in cc
listed-is (kind.Value v) t e = let none_some : None ≡ Some t = e in cc

pub listed-here : (es : List (Name × ItemKind)) (n : ℕ) (k : ItemKind) (o : Option AnyType) (t : AnyType) → option_map (λ e. e.1) (slice_get es n) ≡ Some k → o ≡ listed_type k → o ≡ Some t → IsTypeItemAt es n t
listed-here es n k o t at is some = item-here es n k t at (listed-is k t (sym is ∙ some))

pub item-is : (es : List (Name × ItemKind)) (n : ℕ) (k : ItemKind) (t : AnyType) → option_map (λ e. e.1) (slice_get es n) ≡ Some k → IsTypeItemAt es n t → k ≡ kind.TypeItem t
item-is es n k t at item = let entry = second-is es n k at in sym entry.2 ∙ ap (λ (x : Name × ItemKind). x.1) (some-is entry.0 (type_item item.0 t) (sym entry.1 ∙ item.1))

pub listed-none : (es : List (Name × ItemKind)) (n : ℕ) (k : ItemKind) (o : Option AnyType) → option_map (λ e. e.1) (slice_get es n) ≡ Some k → o ≡ listed_type k → o ≡ None → (t : AnyType) → IsTypeItemAt es n t → ⊥
listed-none es n k o at is none t item = let both : None ≡ Some t = sym none ∙ is ∙ ap listed_type (item-is es n k t at item) in absurd (cc)

module _ (c : Collection) (es : List (Name × ItemKind)) where
  pub names-none : (n : ℕ) (k : ItemKind) (o : Option AnyType) → option_map (λ e. e.1) (slice_get es n) ≡ Some k → o ≡ named_type c k → o ≡ None → (t : AnyType) → NamesAt c es n t → ⊥
  names-none n k o at found none t names =
      let entry = second-is es n k at in
      let same : names.0 ≡ entry.0 = some-is names.0 entry.0 (sym names.1 ∙ entry.1) in
      let some : named_type c k ≡ Some t = ap (named_type c) (sym (ap (λ (e : Name × ItemKind). e.1) same ∙ entry.2)) ∙ names.2 in
      let both : None ≡ Some t = sym none ∙ found ∙ some in
      cc

  pub names-here : (n : ℕ) (k : ItemKind) (o : Option AnyType) (t : AnyType) → option_map (λ e. e.1) (slice_get es n) ≡ Some k → o ≡ named_type c k → o ≡ Some t → NamesAt c es n t
  names-here n k o t at found some = let entry = second-is es n k at in (entry.0, entry.1, ap (named_type c) entry.2 ∙ sym found ∙ some)

  names-one : (n : ℕ) (t u : AnyType) → NamesAt c es n t → NamesAt c es n u → t ≡ u
  names-one n t u one other = some-is t u (sym one.2 ∙ ap (λ (e : Name × ItemKind). named_type c e.1) (some-is one.0 other.0 (sym one.1 ∙ other.1)) ∙ other.2)

  module _ (ts : List AnyType) where
    pub named-in : (n : ℕ) (t : AnyType) → AreReached c es ts → NamesAt c es n t → IsIn t ts
    named-in n t reached names = let item = names-item c es n t names in subst (λ (u : AnyType). IsIn u ts) item.2 (reached.items n item.0 item.1)

    -- no item yet
    none-there : (n k : ℕ) (o : Option ℕ) → slice_get (replicate n (let none : Option ℕ = None in none)) k ≡ Some o → o ≡ None
    none-there n k o at =
        let less : k < length (replicate n (let none : Option ℕ = None in none)) = within (replicate n None) k o at in
        let few : k < n = subst (λ m. k < m) (length-replicate n (let none : Option ℕ = None in none)) less in
        sym (get_or_from_slice_get (replicate n None) k o None at) ∙ get_or-replicate n k None None few

    pub none-named : (n : ℕ) (named : List (Option ℕ)) → n ≡ length ts → named ≡ replicate n None → AreNamed c es ts 0 named
    none-named n named long is = record { long = ap length is ∙ length-replicate n None ∙ long; first = first }
      where
        first : (k : ℕ) (t : AnyType) (o : Option ℕ) → slice_get ts k ≡ Some t → slice_get named k ≡ Some o → IsFirst c es 0 t o
        first k t o at there = subst (IsFirst c es 0 t) (sym (none-there n k o (ap (λ xs. slice_get xs k) (sym is) ∙ there))) (λ q less names. absurd (omega (arith, less)))

    first-on : (n : ℕ) (t : AnyType) (o : Option ℕ) → (NamesAt c es n t → ⊥) → IsFirst c es n t o → IsFirst c es (n + 1) t o
    first-on n t None none first = λ q less names. elim (below-or-last q n less) [ inl before ↦ first q before names | inr same ↦ none (subst (λ (r : ℕ). NamesAt c es r t) same names) ]
    first-on n t (Some q) none first = first

    -- an item that names nothing
    pub unnamed-next : (n : ℕ) (named : List (Option ℕ)) → ((t : AnyType) → NamesAt c es n t → ⊥) → AreNamed c es ts n named → AreNamed c es ts (n + 1) named
    unnamed-next n named none a = record { long = a.long; first = λ k t o at is. first-on n t o (none t) (a.first k t o at is) }

    -- an item that names a type
    pub named-next : (n : ℕ) (t : AnyType) (k : ℕ) (old new : List (Option ℕ)) → NamesAt c es n t → slice_get ts k ≡ Some t → ((j : ℕ) → slice_get ts j ≡ Some t → j ≡ k) → AreNamed c es ts n old
        → length new ≡ length old → ((o : Option ℕ) → slice_get old k ≡ Some o → slice_get new k ≡ Some (Some (unwrap_or o n))) → ((j : ℕ) → j ≢ k → slice_get new j ≡ slice_get old j)
        → AreNamed c es ts (n + 1) new
    named-next n t k old new names at alone a long here others = record { long = long ∙ a.long; first = first }
      where
        by_old : (o p : Option ℕ) → IsFirst c es n t p → o ≡ Some (unwrap_or p n) → IsFirst c es (n + 1) t o
        by_old o None before is = subst (IsFirst c es (n + 1) t) (sym is) (record { names = names; first = before })
        by_old o (Some q) before is = subst (IsFirst c es (n + 1) t) (sym is) before

        first : (j : ℕ) (u : AnyType) (o : Option ℕ) → slice_get ts j ≡ Some u → slice_get new j ≡ Some o → IsFirst c es (n + 1) u o
        first j u o there is = by_test (j == k) refl
          where
            by_test : (b : Bool) → (j == k) ≡ b → IsFirst c es (n + 1) u o
            by_test true same =
                let equal : j ≡ k = eqb-true j k same in
                let one : t ≡ u = some-is t u (sym at ∙ ap (slice_get ts) (sym equal) ∙ there) in
                let before = there-is old k (subst (λ (l : ℕ). k < l) (sym a.long) (within ts k t at)) in
                let now : Some o ≡ Some (Some (unwrap_or before.0 n)) = sym is ∙ ap (slice_get new) equal ∙ here before.0 before.1 in
                subst (λ (x : AnyType). IsFirst c es (n + 1) x o) one (by_old o before.0 (a.first k t before.0 at before.1) (some-is o (Some (unwrap_or before.0 n)) now))
            by_test false other =
                let apart : j ≢ k = grind (arith, other) in
                first-on n u o (λ names_. apart (alone j (there ∙ ap (λ (x : AnyType). Some x) (names-one n u t names_ names)))) (a.first j u o there (sym (others j apart) ∙ is))
