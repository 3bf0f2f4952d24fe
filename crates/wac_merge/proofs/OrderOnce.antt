-- The written order is the only one, and each class stands in it behind those that it rests on.
use Rattle.std.proofs.Common.{◌≡◌, ℕ, ◌<◌, List, [], ◌∷◌, ◌++◌, length, slice_get, Some, Contains, refl, ap, sym, ◌∙◌, subst, ◌⊎◌, inl, inr, arith}
use Rattle.wac_types_collection.specs.collection.Collection.{Collection}
use Rattle.wac_merge_classes.specs.entries.Classes.{Entry, by_names, class_names}
use Rattle.wac_merge_classes.proofs.lemmas.entries.Lists.{at-push, push-cases}
use Rattle.wac_edges.specs.Arranged.{Arranges, done, there, new, Selects, none, takes, leaves}
use Rattle.wac_merge_classes.specs.terms.ClassOrder.{RestsOn, IsWrittenOrder, grouped}
use Rattle.wac_edges.proofs.KeySets.{In}
use Rattle.wac_edges.proofs.ArrangedLaws.{arranges_each, in_at}
use Rattle.wac_merge_agreement.proofs.lemmas.agreement.OrderLaws.{in_grouped}
use Rattle.std.proofs.lemmas.Option.{slice_get_within}

-- ---- what is selected is one list
module _ (P : ℕ → Type 0) where
  -- how a list was selected
  abbrev Selected : List ℕ → List ℕ → Type 0
  Selected [] taken = taken ≡ []
  Selected (n ∷ ns) taken = ((more : List ℕ) × (taken ≡ n ∷ more) × P n × Selects P ns more) ⊎ ((P n → ⊥) × Selects P ns taken)

  selected : (ns taken : List ℕ) → Selects P ns taken → Selected ns taken
  selected ns taken none = refl
  selected ns taken (takes n rest more p s) = inl (more, refl, p, s)
  selected ns taken (leaves n rest more p s) = inr (p, s)

  next_selected : (n : ℕ) (ns xs ys : List ℕ) → Selected (n ∷ ns) xs → Selected (n ∷ ns) ys → ((us vs : List ℕ) → Selects P ns us → Selects P ns vs → us ≡ vs) → xs ≡ ys
  next_selected n ns xs ys (inl (more, e, p, s)) (inl (rest, f, q, t)) one = e ∙ ap (λ l. n ∷ l) (one more rest s t) ∙ sym f
  next_selected n ns xs ys (inl (more, e, p, s)) (inr (apart, t)) one = absurd (apart p)
  next_selected n ns xs ys (inr (apart, s)) (inl (rest, f, q, t)) one = absurd (apart q)
  next_selected n ns xs ys (inr (apart, s)) (inr (never, t)) one = one xs ys s t

  pub selects_one : (ns xs ys : List ℕ) → Selects P ns xs → Selects P ns ys → xs ≡ ys
  selects_one [] xs ys a b = selected [] xs a ∙ sym (selected [] ys b)
  selects_one (n ∷ ns) xs ys a b = next_selected n ns xs ys (selected (n ∷ ns) xs a) (selected (n ∷ ns) ys b) (λ us vs s t. selects_one ns us vs s t)

  -- and it has all that P holds of
  pub selects_all : (ns taken : List ℕ) → Selects P ns taken → (q : ℕ) → In ns q → P q → In taken q
  selects_all ns taken none q h p = h
  selects_all ns taken (takes n rest more p s) q (inl e) w = inl e
  selects_all ns taken (takes n rest more p s) q (inr h) w = inr (selects_all rest more s q h w)
  selects_all ns taken (leaves n rest more apart s) q (inl e) w = absurd (apart (subst P e w))
  selects_all ns taken (leaves n rest more apart s) q (inr h) w = selects_all rest more s q h w

-- ---- what is arranged is one list
module _ (rests : ℕ → ℕ → Type 0) (all : List ℕ) where
  -- how a list was arranged
  abbrev Arranged : List ℕ → List ℕ → List ℕ → Type 0
  Arranged placed [] after = placed ≡ after
  Arranged placed (n ∷ ns) after = (Contains placed n × Arranges rests all placed ns after)
      ⊎ ((under : List ℕ) × (before : List ℕ) × (Contains placed n → ⊥) × Selects (rests n) all under × Arranges rests all placed under before × Arranges rests all (before ++ n ∷ []) ns after)

  arranged : (placed ns after : List ℕ) → Arranges rests all placed ns after → Arranged placed ns after
  arranged placed ns after (done p) = refl
  arranged placed ns after (there p a n l c r) = inl (c, r)
  arranged placed ns after (new p under before a n l c s u r) = inr (under, before, c, s, u, r)

  there_one : (placed ns x y : List ℕ) (n : ℕ) → Contains placed n → Arranged placed (n ∷ ns) y → (Arranges rests all placed ns y → x ≡ y) → x ≡ y
  there_one placed ns x y n c (inl (h, r)) one = one r
  there_one placed ns x y n c (inr (under, before, apart, s, u, r)) one = absurd (apart c)

  new_one : (placed under before ns x y : List ℕ) (n : ℕ) → (Contains placed n → ⊥) → Selects (rests n) all under → Arranged placed (n ∷ ns) y
      → ((z : List ℕ) → Arranges rests all placed under z → before ≡ z) → (Arranges rests all (before ++ n ∷ []) ns y → x ≡ y) → x ≡ y
  new_one placed under before ns x y n apart s (inl (c, r)) first one = absurd (apart c)
  new_one placed under before ns x y n apart s (inr (over, early, never, t, u, r)) first one =
      let same : over ≡ under = selects_one (rests n) all over under t s in
      let is : before ≡ early = first early (subst (λ l. Arranges rests all placed l early) same u) in
      one (subst (λ l. Arranges rests all (l ++ n ∷ []) ns y) (sym is) r)

  pub arranges_one : (placed ns x y : List ℕ) → Arranges rests all placed ns x → Arranges rests all placed ns y → x ≡ y
  arranges_one placed ns x y (done p) b = arranged p [] y b
  arranges_one placed ns x y (there p a n l c r) b = there_one p l a y n c (arranged p (n ∷ l) y b) (λ t. arranges_one p l a y r t)
  arranges_one placed ns x y (new p under before a n l c s u r) b =
      new_one p under before l a y n c s (arranged p (n ∷ l) y b) (λ z t. arranges_one p under before z u t) (λ t. arranges_one (before ++ n ∷ []) l a y r t)

  -- ---- each stands behind those of all that it rests on
  abbrev pub AreBehind : List ℕ → Type 0
  AreBehind ns = (i a b : ℕ) → slice_get ns i ≡ Some a → rests a b → In all b → (j : ℕ) × (j < i) × (slice_get ns j ≡ Some b)

  behind_push : (ns : List ℕ) (n : ℕ) → ((b : ℕ) → rests n b → In all b → In ns b) → AreBehind ns → AreBehind (ns ++ n ∷ [])
  behind_push ns n under behind i a b at r inside = by (push-cases ns n i a at) where
    early : (j : ℕ) × (j < i) × (slice_get ns j ≡ Some b) → (j : ℕ) × (j < i) × (slice_get (ns ++ n ∷ []) j ≡ Some b)
    early (j, less, is) = (j, less, at-push ns n j b is)

    low : (j : ℕ) × (slice_get ns j ≡ Some b) → i ≡ length ns → (j : ℕ) × (j < i) × (slice_get (ns ++ n ∷ []) j ≡ Some b)
    low (j, is) end = (j, omega (arith, end, slice_get_within ns j b is), at-push ns n j b is)

    by : (slice_get ns i ≡ Some a) ⊎ ((i ≡ length ns) × (a ≡ n)) → (j : ℕ) × (j < i) × (slice_get (ns ++ n ∷ []) j ≡ Some b)
    by (inl was) = early (behind i a b was r inside)
    by (inr (end, same)) = low (in_at ns b (under b (subst (λ k. rests k b) same r) inside)) end

  pub arranges_behind : (placed ns after : List ℕ) → Arranges rests all placed ns after → AreBehind placed → AreBehind after
  arranges_behind placed ns after (done p) h = h
  arranges_behind placed ns after (there p a n l c r) h = arranges_behind p l a r h
  arranges_behind placed ns after (new p under before a n l c s u r) h =
      arranges_behind (before ++ n ∷ []) l a r
      (behind_push before n (λ b w inside. arranges_each rests all p under before u b (selects_all (rests n) all under s b inside w)) (arranges_behind p under before u h))

-- ---- the written order
module _ (c : Collection) (es : List Entry) (order : List ℕ) (written : IsWrittenOrder by_names c es order) where
  abbrev all : List ℕ
  all = grouped by_names es

  -- where a class rests on another, that one stands before it
  pub order_rests : (i a b : ℕ) → RestsOn by_names c es a b → b < length (class_names by_names es) → slice_get order i ≡ Some a → (j : ℕ) × (j < i) × (slice_get order j ≡ Some b)
  order_rests i a b r low at = arranges_behind (RestsOn by_names c es) all [] all order written (λ i a b at r inside. cc) i a b at r (in_grouped by_names es b low)

  -- and there is no other
  pub order_only : (more : List ℕ) → IsWrittenOrder by_names c es more → order ≡ more
  order_only more also = arranges_one (RestsOn by_names c es) all [] all order more written also
