-- Numbers in order, as sets.
use Rattle.std.proofs.Common.{◌≡◌, ℕ, suc, ◌<◌, ◌≤◌, max, List, [], ◌∷◌, ◌++◌, refl, sym, ◌⊎◌, inl, inr, arith}
use Rattle.std.specs.List.{All}
use Rattle.std.specs.Ordering.{nat_cmp}
use Rattle.std.specs.declared.cmp.Ordering.TheVariants.{Less}
use Rattle.std.specs.BTreeSet.{insert_key}
use Rattle.std.proofs.lemmas.Cmp.{ranked}
use Rattle.wac_edges.specs.private.cycles.Numbers.{Has}
use Rattle.wac_edges.proofs.lemmas.cycles.Numbers.{has_head, has_tail, has_split, has_insert, has_old, has_new}
use Rattle.wac_edges.specs.private.Arranging.{with_all}

-- a number of a list
abbrev pub In : List ℕ → ℕ → Type 0
In [] q = ⊥
In (n ∷ ns) q = (q ≡ n) ⊎ In ns q

pub has_all : (ns ks : List ℕ) (q : ℕ) → Has (with_all ks ns) q → Has ks q ⊎ In ns q
has_all [] ks q h = inl h
has_all (n ∷ ns) ks q h = split (has_all ns (insert_key nat_cmp ks n) q h) where
  first : (q ≡ n) ⊎ Has ks q → Has ks q ⊎ ((q ≡ n) ⊎ In ns q)
  first (inl e) = inr (inl e)
  first (inr r) = inl r

  split : Has (insert_key nat_cmp ks n) q ⊎ In ns q → Has ks q ⊎ ((q ≡ n) ⊎ In ns q)
  split (inl g) = first (has_insert ks n q g)
  split (inr r) = inr (inr r)

pub all_old : (ns ks : List ℕ) (q : ℕ) → Has ks q → Has (with_all ks ns) q
all_old [] ks q h = h
all_old (n ∷ ns) ks q h = all_old ns (insert_key nat_cmp ks n) q (has_old ks n q h)

pub all_new : (ns ks : List ℕ) (q : ℕ) → In ns q → Has (with_all ks ns) q
all_new [] ks q h = absurd h
all_new (n ∷ ns) ks q (inl e) = all_old ns (insert_key nat_cmp ks n) q (rw e (has_new ks n))
all_new (n ∷ ns) ks q (inr r) = all_new ns (insert_key nat_cmp ks n) q r

-- one more than the greatest of the numbers
abbrev pub above : List ℕ → ℕ
above [] = 0
above (n ∷ ns) = max (suc n) (above ns)

pub above_le : (ks : List ℕ) (k : ℕ) → ((q : ℕ) → Has ks q → q < k) → above ks ≤ k
above_le [] k h = omega arith
above_le (x ∷ xs) k h =
    let first : x < k = h x (has_head x x xs refl) in
    let rest : above xs ≤ k = above_le xs k (λ q w. h q (has_tail q x xs w)) in
    omega arith

pub above_last : (ks : List ℕ) (k : ℕ) → k < above (ks ++ k ∷ [])
above_last [] k = omega arith
above_last (x ∷ xs) k = let rest : k < above (xs ++ k ∷ []) = above_last xs k in omega arith

pub below_all : (ks : List ℕ) (k : ℕ) → All (λ q. nat_cmp q k ≡ Less) ks → (q : ℕ) → Has ks q → q < k
below_all [] k all q w = cc
below_all (x ∷ xs) k all q w = split (has_split q x xs w) (λ v. below_all xs k (λ i d h. all (suc i) d (omega arith)) q v) where
  split : (q ≡ x) ⊎ Has xs q → (Has xs q → q < k) → q < k
  split (inl e) _ = let lower : x < k = ranked x k Less (sym (all 0 0 (omega arith))) in omega (arith, e)
  split (inr v) more = more v

pub below_others : (ns ks : List ℕ) (k : ℕ) → ((q : ℕ) → Has ks q → q < k) → ((q : ℕ) → In ns q → q < k) → (q : ℕ) → Has (with_all ks ns) q → q < k
below_others ns ks k old new q h = split (has_all ns ks q h) where
  split : Has ks q ⊎ In ns q → q < k
  split (inl w) = old q w
  split (inr w) = new q w

pub has_in : (ns : List ℕ) (q : ℕ) → Has ns q → In ns q
has_in [] q h = cc
has_in (n ∷ ns) q h = elim (has_split q n ns h) [ inl e ↦ inl e | inr r ↦ inr (has_in ns q r) ]

pub in_has : (ns : List ℕ) (q : ℕ) → In ns q → Has ns q
in_has [] q h = absurd h
in_has (n ∷ ns) q h = elim h [ inl e ↦ has_head q n ns e | inr r ↦ has_tail q n ns (in_has ns q r) ]
