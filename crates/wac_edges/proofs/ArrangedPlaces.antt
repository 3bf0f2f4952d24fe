-- Where numbers stand among others, and what is selected by their positions.
use Rattle.std.proofs.Common.{◌≡◌, ℕ, zero, suc, ◌+◌, ◌<◌, ◌≤◌, List, [], ◌∷◌, map, length, slice_get, Some, refl, ap, sym, ◌∙◌, subst, ◌⊎◌, inl, inr, arith}
use Rattle.std.proofs.Math.ListN.{set}
use Rattle.std.specs.Prelude.{slice_index}
use Rattle.std.specs.List.{AllByRecursion}
use Rattle.std.specs.List.Sorted.{IsStrictlySortedBy}
use Rattle.std.specs.Ordering.{nat_cmp}
use Rattle.std.specs.declared.cmp.Ordering.TheVariants.{Less}
use Rattle.std.proofs.lemmas.Bool.{cases_eq}
use Rattle.std.proofs.lemmas.Cmp.{ranked}
use Rattle.std.proofs.lemmas.Map.Keys.{sorted_head, sorted_tail}
use Rattle.std.proofs.lemmas.Option.{get_or_from_slice_get, slice_get-get_or, slice_get_within}
use Rattle.wac_edges.specs.Arranged.{Selects, none, takes, leaves, IsOnce, AreAll}
use Rattle.wac_edges.specs.private.cycles.Numbers.{AreBelow, Has}
use Rattle.wac_edges.specs.private.Arranging.{AreRanks, with_all}
use Rattle.wac_edges.proofs.KeySets.{In, has_all, all_new, has_in, in_has}
use Rattle.wac_edges.proofs.ArrangedLaws.{at_in, in_at, contains_in}

-- ---- positions of numbers
set_same : (xs : List ℕ) (k y : ℕ) → k < length xs → slice_get (set xs k y) k ≡ Some y
set_same [] k y low = absurd (omega arith)
set_same (x ∷ xs) zero y low = refl
set_same (x ∷ xs) (suc k) y low = set_same xs k y (omega arith)

set_other : (xs : List ℕ) (k y l : ℕ) → (l ≡ k → ⊥) → slice_get (set xs k y) l ≡ slice_get xs l
set_other [] k y l other = refl
set_other (x ∷ xs) zero y zero other = absurd (other refl)
set_other (x ∷ xs) zero y (suc l) other = refl
set_other (x ∷ xs) (suc k) y zero other = refl
set_other (x ∷ xs) (suc k) y (suc l) other = set_other xs k y l (λ e. other (ap suc e))

-- the numbers up to a position have their ranks
abbrev pub AreRanksTo : List ℕ → List ℕ → ℕ → Type 0
AreRanksTo ns ranks i = (j k : ℕ) → j < i → slice_get ns j ≡ Some k → slice_get ranks k ≡ Some j

pub ranks_next : (ns ranks : List ℕ) (i n : ℕ) → IsOnce ns → slice_get ns i ≡ Some n → n < length ranks → AreRanksTo ns ranks i → AreRanksTo ns (set ranks n i) (i + 1)
ranks_next ns ranks i n once here low old j k below at = split (cases_eq j i) where
  split : (j ≡ i) ⊎ (j ≡ i → ⊥) → slice_get (set ranks n i) k ≡ Some j
  split (inl e) =
      let known : Some k ≡ Some n = sym at ∙ (ap (slice_get ns) e ∙ here) in
      let same : k ≡ n = cc in
      ap (slice_get (set ranks n i)) same ∙ (set_same ranks n i low ∙ ap Some (sym e))
  split (inr other) = set_other ranks n i k (λ e. other (once j i n (at ∙ ap Some e) here)) ∙ old j k (omega (arith, below, other)) at

pub ranks_all : (ns ranks : List ℕ) (i : ℕ) → length ns ≤ i → AreRanksTo ns ranks i → AreRanks ns ranks
ranks_all ns ranks i past old j k at = let low = slice_get_within ns j k at in old j k (omega (arith, low, past)) at

-- the number at a position is below what all are below
pub below_at : (k i : ℕ) (ns : List ℕ) → AreBelow k ns → i < length ns → slice_index ns i < k
below_at k i ns below low = below (slice_index ns i) (in_has ns (slice_index ns i) (at_in ns i (slice_index ns i) (slice_get-get_or ns i 0 low)))

-- ---- what is selected
in_map : (f : ℕ → ℕ) (ns : List ℕ) (b : ℕ) → In ns b → In (map f ns) (f b)
in_map f [] b h = h
in_map f (n ∷ ns) b (inl e) = inl (ap f e)
in_map f (n ∷ ns) b (inr h) = inr (in_map f ns b h)

map_in : (f : ℕ → ℕ) (ns : List ℕ) (q : ℕ) → In (map f ns) q → (b : ℕ) × In ns b × (q ≡ f b)
map_in f [] q h = absurd h
map_in f (n ∷ ns) q (inl e) = (n, inl refl, e)
map_in f (n ∷ ns) q (inr h) = let w = map_in f ns q h in (w.0, inr w.1, w.2)

-- keys in order are above the first
above_first : (k : ℕ) (ks : List ℕ) → AllByRecursion (λ y. nat_cmp k y ≡ Less) ks → (q : ℕ) → In ks q → k < q
above_first k [] all q h = absurd h
above_first k (x ∷ ks) all q (inl e) = let more : k < x = ranked k x Less (sym all.0) in omega (arith, e)
above_first k (x ∷ ks) all q (inr h) = above_first k ks all.1 q h

module _ (P : ℕ → Type 0) (f : ℕ → ℕ) where
  -- f has the numbers from i on, and the positions are those of the numbers that have P
  pub record ArePositions (i : ℕ) (xs ks : List ℕ) : Type 0 where
    pub reads : (j x : ℕ) → slice_get xs j ≡ Some x → f (i + j) ≡ x
    pub sound : (k : ℕ) → In ks k → (j : ℕ) × (x : ℕ) × (k ≡ i + j) × (slice_get xs j ≡ Some x) × P x
    pub whole : (j x : ℕ) → slice_get xs j ≡ Some x → P x → In ks (i + j)

  abbrev At : ℕ → List ℕ → ℕ → Type 0
  At i xs k = (j : ℕ) × (x : ℕ) × (k ≡ i + j) × (slice_get xs j ≡ Some x) × P x

  at_later : (i x : ℕ) (xs : List ℕ) (k : ℕ) → i < k → At i (x ∷ xs) k → At (suc i) xs k
  at_later i x xs k more (zero, y, e, at, p) = absurd (omega (arith, more, e))
  at_later i x xs k more (suc j, y, e, at, p) = (j, y, omega (arith, e), at, p)

  at_first : (i x : ℕ) (xs : List ℕ) → At i (x ∷ xs) i → P x
  at_first i x xs (zero, y, e, at, p) = let same : x ≡ y = cc in subst P (sym same) p
  at_first i x xs (suc j, y, e, at, p) = absurd (omega (arith, e))

  none_at : (i : ℕ) (k : ℕ) → At i [] k → ⊥
  none_at i k (j, x, e, at, p) = let wrong : ⊥ = cc in wrong

  -- the positions without the first
  rest_of : (i x : ℕ) (xs ks : List ℕ) → ArePositions i (x ∷ xs) (i ∷ ks) → ((q : ℕ) → In ks q → i < q) → ArePositions (suc i) xs ks
  rest_of i x xs ks h above = record {
    reads = λ j y at. let next : suc i + j ≡ i + suc j = omega arith in ap f next ∙ h.reads (suc j) y at;
    sound = λ k w. at_later i x xs k (above k w) (h.sound k (inr w));
    whole = λ j y at p. on j (h.whole (suc j) y at p);
  } where
    on : (j : ℕ) → (i + suc j ≡ i) ⊎ In ks (i + suc j) → In ks (suc i + j)
    on j (inl e) = absurd (omega (arith, e))
    on j (inr w) = let next : i + suc j ≡ suc i + j = omega arith in subst (λ k. In ks k) next w

  -- the positions where the first number is not among them
  skip_of : (i x : ℕ) (xs ks : List ℕ) → ArePositions i (x ∷ xs) ks → ((q : ℕ) → In ks q → i < q) → ArePositions (suc i) xs ks
  skip_of i x xs ks h above = record {
    reads = λ j y at. let next : suc i + j ≡ i + suc j = omega arith in ap f next ∙ h.reads (suc j) y at;
    sound = λ k w. at_later i x xs k (above k w) (h.sound k w);
    whole = λ j y at p. let next : i + suc j ≡ suc i + j = omega arith in subst (λ k. In ks k) next (h.whole (suc j) y at p);
  }

  selects_skip : (i x : ℕ) (xs ks : List ℕ) → ArePositions i (x ∷ xs) ks → ((q : ℕ) → In ks q → i < q) → P x → ⊥
  selects_skip i x xs ks h above p = let here : i < i + 0 = above (i + 0) (h.whole 0 x refl p) in omega (arith, here)

  pub selects_from : (i : ℕ) (xs ks : List ℕ) → IsStrictlySortedBy nat_cmp ks → ArePositions i xs ks → Selects P xs (map f ks)
  selects_from i [] [] s h = none
  selects_from i [] (k ∷ ks) s h = absurd (none_at i k (h.sound k (inl refl)))
  selects_from i (x ∷ xs) [] s h = leaves x xs [] (λ p. selects_skip i x xs [] h (λ q w. absurd w) p) (selects_from (suc i) xs [] s (skip_of i x xs [] h (λ q w. absurd w)))
  selects_from i (x ∷ xs) (k ∷ ks) s h = split (cases_eq k i) (selects_from (suc i) xs ks (sorted_tail nat_cmp k ks s)) (selects_from (suc i) xs (k ∷ ks) s) where
    above : (q : ℕ) → In ks q → k < q
    above = above_first k ks (sorted_head nat_cmp k ks s)

    from : (k ≡ i → ⊥) → At i (x ∷ xs) k → i < k
    from other (j, y, e, at, p) = omega (arith, e, other)

    more : (k ≡ i → ⊥) → (q : ℕ) → (q ≡ k) ⊎ In ks q → i < q
    more other q (inl e) = let low = from other (h.sound k (inl refl)) in omega (arith, low, e)
    more other q (inr w) = let low = from other (h.sound k (inl refl)) in let next = above q w in omega (arith, low, next)

    split : (k ≡ i) ⊎ (k ≡ i → ⊥) → (ArePositions (suc i) xs ks → Selects P xs (map f ks)) → (ArePositions (suc i) xs (k ∷ ks) → Selects P xs (map f (k ∷ ks))) → Selects P (x ∷ xs) (f k ∷ map f ks)
    split (inl e) taken left =
        let first : ArePositions i (x ∷ xs) (i ∷ ks) = subst (λ m. ArePositions i (x ∷ xs) (m ∷ ks)) e h in
        let same : i + 0 ≡ k = omega (arith, e) in
        let reads : x ≡ f k = sym (h.reads 0 x refl) ∙ ap f same in
        let rest = taken (rest_of i x xs ks first (λ q w. subst (λ m. m < q) e (above q w))) in
        subst (λ y. Selects P (x ∷ xs) (y ∷ map f ks)) reads (takes x xs (map f ks) (at_first i x xs (first.sound i (inl refl))) rest)
    split (inr other) taken left = leaves x xs (f k ∷ map f ks) (λ p. selects_skip i x xs (k ∷ ks) h (more other) p) (left (skip_of i x xs (k ∷ ks) h (more other)))

-- the positions of numbers, in order
abbrev pub positions : List ℕ → List ℕ → List ℕ
positions ranks numbers = with_all [] (map (slice_index ranks) numbers)

module _ (all ranks numbers : List ℕ) (below : AreBelow (length ranks) numbers) (each : AreAll (length ranks) all) (are : AreRanks all ranks) where
  abbrev found : List ℕ
  found = positions ranks numbers

  -- where one of the numbers stands
  stands : (b : ℕ) → Has numbers b → (j : ℕ) × (slice_get all j ≡ Some b) × (slice_index ranks b ≡ j)
  stands b h =
      let w = in_at all b (contains_in all b ((each b).1 (below b h))) in
      (w.0, w.1, get_or_from_slice_get ranks b w.0 0 (are w.0 b w.1))

  from_number : (k : ℕ) → (b : ℕ) × In numbers b × (k ≡ slice_index ranks b) → (j : ℕ) × (x : ℕ) × (k ≡ 0 + j) × (slice_get all j ≡ Some x) × Has numbers x
  from_number k (b, w, e) = let h = in_has numbers b w in let s = stands b h in (s.0, b, omega (arith, e, s.2), s.1, h)

  position_of : (k : ℕ) → In found k → (j : ℕ) × (x : ℕ) × (k ≡ 0 + j) × (slice_get all j ≡ Some x) × Has numbers x
  position_of k h = on (has_all (map (slice_index ranks) numbers) [] k (in_has found k h)) where
    on : Has [] k ⊎ In (map (slice_index ranks) numbers) k → (j : ℕ) × (x : ℕ) × (k ≡ 0 + j) × (slice_get all j ≡ Some x) × Has numbers x
    on (inl w) = cc
    on (inr w) = from_number k (map_in (slice_index ranks) numbers k w)

  -- positions are positions of all
  pub positions_below : AreBelow (length all) found
  positions_below k h = let w = position_of k (has_in found k h) in let low = slice_get_within all w.0 w.1 w.3 in omega (arith, w.2, low)

  whole_at : (j x : ℕ) → slice_get all j ≡ Some x → Has numbers x → In found (0 + j)
  whole_at j x at h =
      let known : slice_index ranks x ≡ 0 + j = get_or_from_slice_get ranks x j 0 (are j x at) ∙ omega arith in
      has_in found (0 + j) (all_new (map (slice_index ranks) numbers) [] (0 + j) (subst (λ k. In (map (slice_index ranks) numbers) k) known (in_map (slice_index ranks) numbers x (has_in numbers x h))))

  -- what stands at the positions, in order, is what is selected
  pub positions_select : IsStrictlySortedBy nat_cmp found → Selects (λ b. Has numbers b) all (map (slice_index all) found)
  positions_select s =
      selects_from (λ b. Has numbers b) (slice_index all) 0 all found s
      (record { reads = λ j x at. (let same : 0 + j ≡ j = omega arith in ap (slice_index all) same ∙ get_or_from_slice_get all j x 0 at); sound = position_of; whole = whole_at })
