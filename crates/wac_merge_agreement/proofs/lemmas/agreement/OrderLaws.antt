-- What the written order has: each class, and each once.
use Rattle.std.proofs.Common.{◌≡◌, ℕ, zero, suc, ◌+◌, ◌<◌, ◌==◌, if◌then◌else◌, Bool, true, false, List, [], ◌∷◌, ◌++◌, length, slice_get, Some, Contains, refl, ap, sym, ◌∙◌, subst, ◌⊎◌, inl, inr, arith}
use Rattle.std.specs.Prelude.{◌↔◌}
use Rattle.std.specs.BTreeSet.{BTreeSet}
use Rattle.std.proofs.lemmas.Bool.{eqb-true, eq-eqb}
use Rattle.std.proofs.lemmas.Option.{slice_get_within}
use Rattle.wac_types_shapes.specs.primitives.Name.{Name, same_name}
use Rattle.wac_types_collection.specs.collection.Collection.{Collection}
use Rattle.wac_types_shapes.specs.declared.shapes.component.ItemKind.{ItemKind}
use Rattle.wac_types_shapes.specs.declared.shapes.component.ItemKind.TheVariants as kind
use Rattle.wac_edges.specs.cycles.Cycles.{IsStep}
use Rattle.wac_merge_classes.specs.entries.Classes.{Entry, NameRules, by_names, class_names}
use Rattle.wac_edges.specs.Arranged.{Arranges, none, IsOnce, AreAll}
use Rattle.wac_merge_classes.specs.terms.ClassOrder.{RestsOn, IsWrittenOrder, group_of, group_under, in_group, grouped}
use Rattle.wac_merge_classes.specs.terms.Faults.{HasNoCircle}
use Rattle.wac_edges.proofs.KeySets.{In}
use Rattle.wac_edges.proofs.ArrangedLaws.{in_front, in_behind, in_either, contains_in, in_contains, Once, once_joined, once_at, arranges_alike, arranges_each, arranges_only, arranges_once}
use Rattle.wac_merge_classes.proofs.lemmas.entries.Lists.{some-at}

-- ---- groups
module _ (es : List Entry) where
  -- the number of a class in a group
  abbrev OfGroup : ℕ → ℕ → List Name → ℕ → Type 0
  OfGroup g i ns q = (j : ℕ) × (n : Name) × (q ≡ i + j) × (slice_get ns j ≡ Some n) × (group_under es n ≡ g)

  group_next : (g i : ℕ) (n : Name) (ns : List Name) (q : ℕ) → OfGroup g (suc i) ns q → OfGroup g i (n ∷ ns) q
  group_next g i n ns q (j, m, p, at, is) = (suc j, m, omega (arith, p), at, is)

  group_first : (g i : ℕ) (n : Name) (ns : List Name) (q : ℕ) → q ≡ i → group_under es n ≡ g → OfGroup g i (n ∷ ns) q
  group_first g i n ns q e is = (0, n, omega (arith, e), refl, is)

  group_of_in : (g i : ℕ) (ns : List Name) (q : ℕ) → In (in_group g es i ns) q → OfGroup g i ns q
  group_of_in g i [] q h = absurd h
  group_of_in g i (n ∷ ns) q h = split (group_under es n == g) refl h (λ w. group_of_in g (suc i) ns q w) where
    split : (b : Bool) → (group_under es n == g) ≡ b → In (if b then i ∷ in_group g es (suc i) ns else in_group g es (suc i) ns) q → (In (in_group g es (suc i) ns) q → OfGroup g (suc i) ns q) → OfGroup g i (n ∷ ns) q
    split true e (inl same) more = group_first g i n ns q same (eqb-true (group_under es n) g e)
    split true e (inr w) more = group_next g i n ns q (more w)
    split false e w more = group_next g i n ns q (more w)

  in_of_group : (g i : ℕ) (ns : List Name) (j : ℕ) (n : Name) → slice_get ns j ≡ Some n → group_under es n ≡ g → In (in_group g es i ns) (i + j)
  in_of_group g i [] j n at is = cc
  in_of_group g i (m ∷ ns) zero n at is =
      let same : m ≡ n = cc in
      subst (λ (b : Bool). In (if b then i ∷ in_group g es (suc i) ns else in_group g es (suc i) ns) (i + 0)) (sym (eq-eqb (group_under es m) g (ap (group_under es) same ∙ is))) (inl (omega arith))
  in_of_group g i (m ∷ ns) (suc j) n at is =
      let next : suc i + j ≡ i + suc j = omega arith in
      split (group_under es m == g) (subst (λ k. In (in_group g es (suc i) ns) k) next (in_of_group g (suc i) ns j n at is)) where
        split : (b : Bool) → In (in_group g es (suc i) ns) (i + suc j) → In (if b then i ∷ in_group g es (suc i) ns else in_group g es (suc i) ns) (i + suc j)
        split true w = inr w
        split false w = w

  group_once : (g i : ℕ) (ns : List Name) → Once (in_group g es i ns)
  group_once g i [] = tt
  group_once g i (n ∷ ns) = split (group_under es n == g) (group_once g (suc i) ns) where
    later : OfGroup g (suc i) ns i → ⊥
    later (j, m, p, at, is) = omega (arith, p)

    split : (b : Bool) → Once (in_group g es (suc i) ns) → Once (if b then i ∷ in_group g es (suc i) ns else in_group g es (suc i) ns)
    split true o = (λ h. later (group_of_in g (suc i) ns i h), o)
    split false o = o

  -- groups have nothing in common
  groups_apart : (g h : ℕ) (ns : List Name) (q : ℕ) → (g ≡ h → ⊥) → In (in_group g es 0 ns) q → In (in_group h es 0 ns) q → ⊥
  groups_apart g h ns q other a b = on (group_of_in g 0 ns q a) (group_of_in h 0 ns q b) where
    on : OfGroup g 0 ns q → OfGroup h 0 ns q → ⊥
    on (j, m, p, at, is) (k, n, r, there_, was) =
        let one : j ≡ k = omega (arith, p, r) in
        let same : Some m ≡ Some n = sym at ∙ (ap (slice_get ns) one ∙ there_) in
        let name : m ≡ n = cc in
        other (sym is ∙ (ap (group_under es) name ∙ was))

kind_group : (k : ItemKind) → group_of k < 3
kind_group (kind.Instance i) = omega arith
kind_group (kind.TypeItem t) = omega arith
kind_group (kind.Func f) = omega arith
kind_group (kind.Component w) = omega arith
kind_group (kind.Module m) = omega arith
kind_group (kind.Value v) = omega arith

group_low : (es : List Entry) (n : Name) → group_under es n < 3
group_low [] n = omega arith
group_low (e ∷ rest) n = split (same_name e.name n) (group_low rest n) where
  split : (b : Bool) → group_under rest n < 3 → (if b then group_of e.kind else group_under rest n) < 3
  split true h = kind_group e.kind
  split false h = h

module _ (rules : NameRules) (es : List Entry) where
  abbrev names : List Name
  names = class_names rules es

  pub grouped_once : Once (grouped rules es)
  grouped_once =
      once_joined (in_group 0 es 0 names) (in_group 1 es 0 names ++ in_group 2 es 0 names) (group_once es 0 0 names)
      (once_joined (in_group 1 es 0 names) (in_group 2 es 0 names) (group_once es 1 0 names) (group_once es 2 0 names) (λ q a b. groups_apart es 1 2 names q (λ e. omega (arith, e)) a b))
      (λ q a b. behind q a (in_either (in_group 1 es 0 names) (in_group 2 es 0 names) q b))
    where
      behind : (q : ℕ) → In (in_group 0 es 0 names) q → In (in_group 1 es 0 names) q ⊎ In (in_group 2 es 0 names) q → ⊥
      behind q a (inl b) = groups_apart es 0 1 names q (λ e. omega (arith, e)) a b
      behind q a (inr b) = groups_apart es 0 2 names q (λ e. omega (arith, e)) a b

  low_in : (g q : ℕ) → In (in_group g es 0 names) q → q < length names
  low_in g q h = on (group_of_in es g 0 names q h) where
    on : OfGroup es g 0 names q → q < length names
    on (j, n, p, at, is) = let low = slice_get_within names j n at in omega (arith, p, low)

  -- the numbers in their groups are those of the classes
  pub grouped_in : (q : ℕ) → In (grouped rules es) q → q < length names
  grouped_in q h = first (in_either (in_group 0 es 0 names) (in_group 1 es 0 names ++ in_group 2 es 0 names) q h) where
    second : In (in_group 1 es 0 names) q ⊎ In (in_group 2 es 0 names) q → q < length names
    second (inl w) = low_in 1 q w
    second (inr w) = low_in 2 q w

    first : In (in_group 0 es 0 names) q ⊎ In (in_group 1 es 0 names ++ in_group 2 es 0 names) q → q < length names
    first (inl w) = low_in 0 q w
    first (inr w) = second (in_either (in_group 1 es 0 names) (in_group 2 es 0 names) q w)

  pub in_grouped : (q : ℕ) → q < length names → In (grouped rules es) q
  in_grouped q low = on (some-at names q low) where
    at_number : (g : ℕ) (n : Name) → slice_get names q ≡ Some n → group_under es n ≡ g → In (in_group g es 0 names) q
    at_number g n at is = let same : 0 + q ≡ q = omega arith in subst (λ k. In (in_group g es 0 names) k) same (in_of_group es g 0 names q n at is)

    pick : (g : ℕ) (n : Name) → slice_get names q ≡ Some n → group_under es n ≡ g → g < 3 → In (grouped rules es) q
    pick zero n at is h = in_front (in_group 0 es 0 names) _ q (at_number 0 n at is)
    pick (suc zero) n at is h = in_behind (in_group 0 es 0 names) _ q (in_front (in_group 1 es 0 names) _ q (at_number 1 n at is))
    pick (suc (suc zero)) n at is h = in_behind (in_group 0 es 0 names) _ q (in_behind (in_group 1 es 0 names) _ q (at_number 2 n at is))
    pick (suc (suc (suc g))) n at is h = absurd (omega (arith, h))

    on : (n : Name) × (slice_get names q ≡ Some n) → In (grouped rules es) q
    on (n, at) = pick (group_under es n) n at refl (group_low es n)

  pub grouped_all : AreAll (length names) (grouped rules es)
  grouped_all k = (λ h. grouped_in k (contains_in (grouped rules es) k h), λ low. in_contains (grouped rules es) k (in_grouped k low))

  -- ---- the written order
  module _ (c : Collection) (order : List ℕ) (written : IsWrittenOrder rules c es order) where
    -- it has each class
    pub order_each : (k : ℕ) → (Contains order k ↔ k < length names)
    order_each k = (
      λ h. arranges_only (RestsOn rules c es) (grouped rules es) (λ q. q < length names) grouped_in [] (grouped rules es) order written (λ q w. absurd w) grouped_in k (contains_in order k h),
      λ low. in_contains order k (arranges_each (RestsOn rules c es) (grouped rules es) [] (grouped rules es) order written k (in_grouped k low)),
    )

    -- and each once, where none rests on itself through others
    pub order_once : HasNoCircle rules c es → IsOnce order
    order_once ordered = once_at order (arranges_once (RestsOn rules c es) (grouped rules es) ordered [] (grouped rules es) order written tt)

-- ---- an order that comes out of sets of numbers
module _ (c : Collection) (es : List Entry) (sets : List (BTreeSet ℕ)) (rests : (a b : ℕ) → IsStep sets a b ↔ RestsOn by_names c es a b) where
  pub written_from : (all order : List ℕ) → all ≡ grouped by_names es → Arranges (IsStep sets) all [] all order → IsWrittenOrder by_names c es order
  written_from all order is a = arranges_alike (IsStep sets) (RestsOn by_names c es) rests (grouped by_names es) [] (grouped by_names es) order (subst (λ (ns : List ℕ). Arranges (IsStep sets) ns [] ns order) is a)
