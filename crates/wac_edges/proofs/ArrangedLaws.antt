-- What an arranged order has: each number, and each once.
use Rattle.std.proofs.Common.{◌≡◌, ℕ, zero, suc, ◌≤◌, List, [], ◌∷◌, ◌++◌, length, slice_get, Some, Contains, refl, ap, sym, subst, ◌⊎◌, inl, inr, arith}
use Rattle.std.specs.Prelude.{◌↔◌}
use Rattle.std.proofs.lemmas.Option.{get_or_from_slice_get, slice_get_read, slice_get_within}
use Rattle.wac_edges.specs.cycles.Cycles.{Path, step, further}
use Rattle.wac_edges.specs.Arranged.{Arranges, done, there, new, Selects, none, takes, leaves, IsOnce}
use Rattle.wac_edges.proofs.KeySets.{In}

-- ---- numbers of lists
pub in_front : (xs ys : List ℕ) (q : ℕ) → In xs q → In (xs ++ ys) q
in_front [] ys q h = absurd h
in_front (x ∷ xs) ys q (inl e) = inl e
in_front (x ∷ xs) ys q (inr h) = inr (in_front xs ys q h)

pub in_behind : (xs ys : List ℕ) (q : ℕ) → In ys q → In (xs ++ ys) q
in_behind [] ys q h = h
in_behind (x ∷ xs) ys q h = inr (in_behind xs ys q h)

pub in_either : (xs ys : List ℕ) (q : ℕ) → In (xs ++ ys) q → In xs q ⊎ In ys q
in_either [] ys q h = inr h
in_either (x ∷ xs) ys q (inl e) = inl (inl e)
in_either (x ∷ xs) ys q (inr h) = on (in_either xs ys q h) where
  on : In xs q ⊎ In ys q → ((q ≡ x) ⊎ In xs q) ⊎ In ys q
  on (inl w) = inl (inr w)
  on (inr w) = inr w

pub at_in : (ns : List ℕ) (i q : ℕ) → slice_get ns i ≡ Some q → In ns q
at_in [] i q at = cc
at_in (n ∷ ns) zero q at = let same : n ≡ q = cc in inl (sym same)
at_in (n ∷ ns) (suc i) q at = inr (at_in ns i q at)

pub in_at : (ns : List ℕ) (q : ℕ) → In ns q → (i : ℕ) × (slice_get ns i ≡ Some q)
in_at [] q h = absurd h
in_at (n ∷ ns) q (inl e) = (0, ap Some (sym e))
in_at (n ∷ ns) q (inr h) = let w = in_at ns q h in (suc w.0, w.1)

pub contains_in : (ns : List ℕ) (q : ℕ) → Contains ns q → In ns q
contains_in ns q (k, low, is) = at_in ns k q (slice_get_read ns (length ns) k q refl low (sym is))

pub in_contains : (ns : List ℕ) (q : ℕ) → In ns q → Contains ns q
in_contains ns q h = let w = in_at ns q h in (w.0, slice_get_within ns w.0 q w.1, get_or_from_slice_get ns w.0 q q w.1)

-- no number stands twice
abbrev pub Once : List ℕ → Type 0
Once [] = Unit {0}
Once (n ∷ ns) = (In ns n → ⊥) × Once ns

pub once_joined : (xs ys : List ℕ) → Once xs → Once ys → ((q : ℕ) → In xs q → In ys q → ⊥) → Once (xs ++ ys)
once_joined [] ys o p apart = p
once_joined (x ∷ xs) ys o p apart = (λ h. split (in_either xs ys x h), once_joined xs ys o.1 p (λ q h g. apart q (inr h) g)) where
  split : In xs x ⊎ In ys x → ⊥
  split (inl w) = o.0 w
  split (inr w) = apart x (inl refl) w

once_push : (ns : List ℕ) (n : ℕ) → Once ns → (In ns n → ⊥) → Once (ns ++ n ∷ [])
once_push ns n o apart = once_joined ns (n ∷ []) o ((λ h. h), tt) (λ q h g. other q h g) where
  other : (q : ℕ) → In ns q → (q ≡ n) ⊎ ⊥ → ⊥
  other q h (inl e) = apart (subst (λ k. In ns k) e h)
  other q h (inr b) = b

pub once_at : (ns : List ℕ) → Once ns → IsOnce ns
once_at [] o i j k a b = cc
once_at (n ∷ ns) o zero zero k a b = refl
once_at (n ∷ ns) o zero (suc j) k a b = let same : n ≡ k = cc in absurd (o.0 (subst (λ m. In ns m) (sym same) (at_in ns j k b)))
once_at (n ∷ ns) o (suc i) zero k a b = let same : n ≡ k = cc in absurd (o.0 (subst (λ m. In ns m) (sym same) (at_in ns i k a)))
once_at (n ∷ ns) o (suc i) (suc j) k a b = ap suc (once_at ns o.1 i j k a b)

-- ---- what is selected
pub selects_in : (P : ℕ → Type 0) (ns taken : List ℕ) → Selects P ns taken → (q : ℕ) → In taken q → In ns q × P q
selects_in P ns taken none q h = absurd h
selects_in P ns taken (takes n rest more p s) q (inl e) = (inl e, subst P (sym e) p)
selects_in P ns taken (takes n rest more p s) q (inr h) = let w = selects_in P rest more s q h in (inr w.0, w.1)
selects_in P ns taken (leaves n rest more p s) q h = let w = selects_in P rest more s q h in (inr w.0, w.1)

pub selects_long : (P : ℕ → Type 0) (ns taken : List ℕ) → Selects P ns taken → length taken ≤ length ns
selects_long P ns taken none = omega arith
selects_long P ns taken (takes n rest more p s) = let w = selects_long P rest more s in omega (arith, w)
selects_long P ns taken (leaves n rest more p s) = let w = selects_long P rest more s in omega (arith, w)

pub selects_alike : (P Q : ℕ → Type 0) → ((n : ℕ) → P n ↔ Q n) → (ns taken : List ℕ) → Selects P ns taken → Selects Q ns taken
selects_alike P Q same ns taken none = none
selects_alike P Q same ns taken (takes n rest more p s) = takes n rest more ((same n).0 p) (selects_alike P Q same rest more s)
selects_alike P Q same ns taken (leaves n rest more p s) = leaves n rest more (λ q. p ((same n).1 q)) (selects_alike P Q same rest more s)

-- ---- what is arranged
pub arranges_alike : (R S : ℕ → ℕ → Type 0) → ((a b : ℕ) → R a b ↔ S a b) → (all placed ns after : List ℕ) → Arranges R all placed ns after → Arranges S all placed ns after
arranges_alike R S same all placed ns after (done p) = done p
arranges_alike R S same all placed ns after (there p a n l c r) = there p a n l c (arranges_alike R S same all p l a r)
arranges_alike R S same all placed ns after (new p under before a n l c s u r) =
    new p under before a n l c (selects_alike (R n) (S n) (same n) all under s) (arranges_alike R S same all p under before u) (arranges_alike R S same all (before ++ n ∷ []) l a r)

module _ (rests : ℕ → ℕ → Type 0) (all : List ℕ) where
  -- what is placed stays
  arranges_keeps : (placed ns after : List ℕ) → Arranges rests all placed ns after → (q : ℕ) → In placed q → In after q
  arranges_keeps placed ns after (done p) q h = h
  arranges_keeps placed ns after (there p a n l c r) q h = arranges_keeps p l a r q h
  arranges_keeps placed ns after (new p under before a n l c s u r) q h = arranges_keeps (before ++ n ∷ []) l a r q (in_front before (n ∷ []) q (arranges_keeps p under before u q h))

  -- each number is placed
  pub arranges_each : (placed ns after : List ℕ) → Arranges rests all placed ns after → (q : ℕ) → In ns q → In after q
  arranges_each placed ns after (done p) q h = absurd h
  arranges_each placed ns after (there p a n l c r) q (inl e) = arranges_keeps p l a r q (subst (λ k. In p k) (sym e) (contains_in p n c))
  arranges_each placed ns after (there p a n l c r) q (inr h) = arranges_each p l a r q h
  arranges_each placed ns after (new p under before a n l c s u r) q (inl e) = arranges_keeps (before ++ n ∷ []) l a r q (in_behind before (n ∷ []) q (inl e))
  arranges_each placed ns after (new p under before a n l c s u r) q (inr h) = arranges_each (before ++ n ∷ []) l a r q h

  -- nothing else is placed
  among : (before : List ℕ) (n q : ℕ) (B : Type 0) → (In before q → B) → ((q ≡ n) → B) → In (before ++ n ∷ []) q → B
  among before n q B f g h = split (in_either before (n ∷ []) q h) where
    split : In before q ⊎ In (n ∷ []) q → B
    split (inl w) = f w
    split (inr (inl e)) = g e
    split (inr (inr b)) = absurd b

  pub arranges_only : (P : ℕ → Type 0) → ((q : ℕ) → In all q → P q) → (placed ns after : List ℕ) → Arranges rests all placed ns after
      → ((q : ℕ) → In placed q → P q) → ((q : ℕ) → In ns q → P q) → (q : ℕ) → In after q → P q
  arranges_only P a placed ns after (done p) f g q h = f q h
  arranges_only P a placed ns after (there p z n l c r) f g q h = arranges_only P a p l z r f (λ k w. g k (inr w)) q h
  arranges_only P a placed ns after (new p under before z n l c s u r) f g q h =
      arranges_only P a (before ++ n ∷ []) l z r
      (λ k w. among before n k (P k) (arranges_only P a p under before u f (λ m v. a m (selects_in (rests n) all under s m v).0) k) (λ e. g k (inl e)) w)
      (λ k w. g k (inr w)) q h

  -- what is placed was before, or is among the numbers, or one of them rests on it through others
  abbrev From : List ℕ → List ℕ → ℕ → Type 0
  From placed ns q = In placed q ⊎ ((m : ℕ) × In ns m × ((m ≡ q) ⊎ Path rests m q))

  from_tail : (placed : List ℕ) (n : ℕ) (l : List ℕ) (q : ℕ) → From placed l q → From placed (n ∷ l) q
  from_tail placed n l q (inl w) = inl w
  from_tail placed n l q (inr (m, i, w)) = inr (m, inr i, w)

  through_under : (n q : ℕ) (under : List ℕ) → Selects (rests n) all under → (m : ℕ) → In under m → (m ≡ q) ⊎ Path rests m q → Path rests n q
  through_under n q under s m i (inl e) = step n q (subst (λ k. rests n k) e (selects_in (rests n) all under s m i).1)
  through_under n q under s m i (inr t) = further n m q (selects_in (rests n) all under s m i).1 t

  from_under : (placed under l : List ℕ) (n q : ℕ) → Selects (rests n) all under → From placed under q → From placed (n ∷ l) q
  from_under placed under l n q s (inl w) = inl w
  from_under placed under l n q s (inr (m, i, w)) = inr (n, inl refl, inr (through_under n q under s m i w))

  from_head : (placed l : List ℕ) (n q : ℕ) → (q ≡ n) → From placed (n ∷ l) q
  from_head placed l n q e = inr (n, inl refl, inl (sym e))

  from_new : (placed before under l : List ℕ) (n q : ℕ) → Selects (rests n) all under → ((k : ℕ) → In before k → From placed under k) → From (before ++ n ∷ []) l q → From placed (n ∷ l) q
  from_new placed before under l n q s f (inl w) = among before n q (From placed (n ∷ l) q) (λ h. from_under placed under l n q s (f q h)) (λ e. from_head placed l n q e) w
  from_new placed before under l n q s f (inr (m, i, w)) = inr (m, inr i, w)

  arranges_from : (placed ns after : List ℕ) → Arranges rests all placed ns after → (q : ℕ) → In after q → From placed ns q
  arranges_from placed ns after (done p) q h = inl h
  arranges_from placed ns after (there p a n l c r) q h = from_tail p n l q (arranges_from p l a r q h)
  arranges_from placed ns after (new p under before a n l c s u r) q h = from_new p before under l n q s (λ k w. arranges_from p under before u k w) (arranges_from (before ++ n ∷ []) l a r q h)

  new_apart : (placed under : List ℕ) (n : ℕ) → ((m : ℕ) → Path rests m m → ⊥) → (Contains placed n → ⊥) → Selects (rests n) all under → From placed under n → ⊥
  new_apart placed under n ordered c s (inl w) = c (in_contains placed n w)
  new_apart placed under n ordered c s (inr (m, i, w)) = ordered n (through_under n n under s m i w)

  -- each is placed once
  pub arranges_once : ((m : ℕ) → Path rests m m → ⊥) → (placed ns after : List ℕ) → Arranges rests all placed ns after → Once placed → Once after
  arranges_once ordered placed ns after (done p) o = o
  arranges_once ordered placed ns after (there p a n l c r) o = arranges_once ordered p l a r o
  arranges_once ordered placed ns after (new p under before a n l c s u r) o =
      arranges_once ordered (before ++ n ∷ []) l a r (once_push before n (arranges_once ordered p under before u o) (λ w. new_apart p under n ordered c s (arranges_from p under before u n w)))
