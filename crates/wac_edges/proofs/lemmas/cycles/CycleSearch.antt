-- Steps between numbers: what a walk reaches, and which numbers their ranks keep off every cycle.
use Rattle.std.proofs.Common.{◌≡◌, ℕ, zero, suc, ◌+◌, ◌<◌, ◌≤◌, Bool, true, false, if◌then◌else◌, List, [], ◌∷◌, ◌++◌, length, replicate, Some, refl, ap, sym, ◌∙◌, ◌⊎◌, inl, inr, subst, arith, fold}
use Rattle.std.proofs.Math.ListN.{set, length-set, length-replicate}
use Rattle.std.specs.Prelude.{slice_get, slice_set, slice_index, nat_lt}
use Rattle.std.specs.BTreeSet.{BTreeSet, contains}
use Rattle.std.specs.Ordering.{nat_cmp}
use Rattle.std.proofs.lemmas.Bool.Decides.{nat_tests}
use Rattle.wac_edges.specs.cycles.Cycles.{Path, step, further, IsStep, AreWithin, LeadsBack, HasNoCycle, HasLowestOnCycle}
use Rattle.wac_edges.specs.private.cycles.Numbers.{AreBelow, Has}
use Rattle.wac_edges.specs.private.cycles.CycleSearch.{Descends, AreUpTo, is_reached, marked, IsWalk}
use Rattle.wac_edges.proofs.lemmas.cycles.Numbers.{has_head, has_tail, has_split, has_front, has_last, has_either}

-- ---- numbers that are below a bound
pub below_first : (k b : ℕ) (rest ns : List ℕ) → ns ≡ b ∷ rest → AreBelow k ns → b < k
below_first k b rest ns is low = low b (subst (λ l. Has l b) (sym is) (has_head b b rest refl))

pub below_rest : (k b : ℕ) (rest ns : List ℕ) → ns ≡ b ∷ rest → AreBelow k ns → AreBelow k rest
below_rest k b rest ns is low n h = low n (subst (λ l. Has l n) (sym is) (has_tail n b rest h))

pub below_none : (k : ℕ) → AreBelow k []
below_none k n h = cc

pub below_pushed : (k b : ℕ) (ns : List ℕ) → AreBelow k ns → b < k → AreBelow k (ns ++ b ∷ [])
below_pushed k b ns low here n h = split (has_either ns b n h) where
  split : Has ns n ⊎ (n ≡ b) → n < k
  split (inl w) = low n w
  split (inr e) = omega (arith, e)

pub below_popped : (k b : ℕ) (ns all : List ℕ) → all ≡ ns ++ b ∷ [] → AreBelow k all → AreBelow k ns
below_popped k b ns all is low n h = low n (subst (λ l. Has l n) (sym is) (has_front ns b n h))

pub popped_below : (k b : ℕ) (ns all : List ℕ) → all ≡ ns ++ b ∷ [] → AreBelow k all → b < k
popped_below k b ns all is low = low b (subst (λ l. Has l b) (sym is) (has_last ns b))

pub below_joined : (k : ℕ) (ns ms : List ℕ) → AreBelow k ns → AreBelow k ms → AreBelow k (ns ++ ms)
below_joined k [] ms low more m h = more m h
below_joined k (n ∷ ns) ms low more m h = split (has_split m n (ns ++ ms) h) (below_joined k ns ms (λ q g. low q (has_tail q n ns g)) more m) where
  split : (m ≡ n) ⊎ Has (ns ++ ms) m → (Has (ns ++ ms) m → m < k) → m < k
  split (inl e) _ = low m (has_head m n ns e)
  split (inr w) rest = rest w

pub below_next : (k j b : ℕ) (rest ns : List ℕ) → ns ≡ b ∷ rest → j ≡ k → AreBelow k ns → AreBelow j rest
below_next k j b rest ns is same low n h = let less : n < k = below_rest k b rest ns is low n h in omega (arith, same)

pub below_kept : (k j : ℕ) (ns : List ℕ) → j ≡ k → AreBelow k ns → AreBelow j ns
below_kept k j ns same low n h = let less : n < k = low n h in omega (arith, same)

-- ---- ranks
pub under_next : (ranks : List ℕ) (old new b : ℕ) (rest ns all : List ℕ) → ns ≡ b ∷ rest → old ≤ new → slice_index ranks b ≤ new
    → ((n : ℕ) → Has all n → Has ns n ⊎ (slice_index ranks n ≤ old)) → (n : ℕ) → Has all n → Has rest n ⊎ (slice_index ranks n ≤ new)
under_next ranks old new b rest ns all is more here was n h = split (was n h) where
  first : (n ≡ b) ⊎ Has rest n → Has rest n ⊎ (slice_index ranks n ≤ new)
  first (inl e) = inr (subst (λ k. slice_index ranks k ≤ new) (sym e) here)
  first (inr w) = inl w

  split : Has ns n ⊎ (slice_index ranks n ≤ old) → Has rest n ⊎ (slice_index ranks n ≤ new)
  split (inl w) = first (has_split n b rest (subst (λ l. Has l n) is w))
  split (inr r) = inr (omega (arith, r, more))

pub under_all : (ranks : List ℕ) (rank : ℕ) (ns all : List ℕ) → ns ≡ [] → ((n : ℕ) → Has all n → Has ns n ⊎ (slice_index ranks n ≤ rank)) → AreUpTo ranks rank all
under_all ranks rank ns all is old n h = split (old n h) where
  split : Has ns n ⊎ (slice_index ranks n ≤ rank) → slice_index ranks n ≤ rank
  split (inl w) = let wrong : Has [] n = subst (λ l. Has l n) is w in cc
  split (inr r) = r

-- ranks do not rise along a path
descends_on : (targets : List (BTreeSet ℕ)) (ranks : List ℕ) → Descends targets ranks → (a b : ℕ) → Path (IsStep targets) a b → slice_index ranks b ≤ slice_index ranks a
descends_on targets ranks down a b (step x y l) = down x y l
descends_on targets ranks down a b (further x y z l p) =
    let first : slice_index ranks y ≤ slice_index ranks x = down x y l in
    let rest : slice_index ranks z ≤ slice_index ranks y = descends_on targets ranks down y z p in
    omega arith

-- and a number whose steps lead to lower ranks is of a greater one than all to which steps lead from it
falls_on : (targets : List (BTreeSet ℕ)) (ranks : List ℕ) → Descends targets ranks → (a b : ℕ) → Path (IsStep targets) a b
    → ((n : ℕ) → IsStep targets a n → slice_index ranks n < slice_index ranks a) → slice_index ranks b < slice_index ranks a
falls_on targets ranks down a b (step x y l) falls = falls y l
falls_on targets ranks down a b (further x y z l p) falls =
    let first : slice_index ranks y < slice_index ranks x = falls y l in
    let rest : slice_index ranks z ≤ slice_index ranks y = descends_on targets ranks down y z p in
    omega arith

same_set : (targets : List (BTreeSet ℕ)) (i : ℕ) (s t : BTreeSet ℕ) → slice_get targets i ≡ Some s → slice_get targets i ≡ Some t → t ≡ s
same_set targets i s t is at = cc

pub ruled_out : (targets : List (BTreeSet ℕ)) (ranks : List ℕ) (n rank : ℕ) (s : BTreeSet ℕ) → Descends targets ranks → slice_get targets n ≡ Some s → AreUpTo ranks rank s.keys
    → rank < slice_index ranks n → LeadsBack targets n → ⊥
ruled_out targets ranks n rank s down is under low on =
    let wrong : slice_index ranks n < slice_index ranks n = falls_on targets ranks down n n on falls in omega arith where
      falls : (b : ℕ) → IsStep targets n b → slice_index ranks b < slice_index ranks n
      falls b (t, at, h) =
          let here : slice_index ranks b ≤ rank = under b (subst (λ k. contains nat_cmp k b ≡ true) (same_set targets n s t is at) h) in
          omega (arith, here, low)

-- ---- what is marked
pub marked_long : (s : List Bool × List ℕ) (b : ℕ) → length (marked s b).0 ≡ length s.0
marked_long s b = split (is_reached s.0 b) where
  split : (t : Bool) → length (if t then s else (slice_set s.0 b true, s.1 ++ b ∷ [])).0 ≡ length s.0
  split true = refl
  split false = length-set s.0 b true

abbrev State : Type 0
State = List Bool × List ℕ

by_case : (s : State) (b : ℕ) (P : State → Type 0) → (is_reached s.0 b ≡ true → P s) → (is_reached s.0 b ≡ false → P (slice_set s.0 b true, s.1 ++ b ∷ [])) → P (marked s b)
by_case s b P there new = split (is_reached s.0 b) refl where
  split : (t : Bool) → is_reached s.0 b ≡ t → P (if t then s else (slice_set s.0 b true, s.1 ++ b ∷ []))
  split true e = there e
  split false e = new e

set_same : (r : List Bool) (b : ℕ) → b < length r → is_reached (slice_set r b true) b ≡ true
set_same [] b low = absurd (omega arith)
set_same (x ∷ r) zero low = refl
set_same (x ∷ r) (suc b) low = set_same r b (omega arith)

set_kept : (r : List Bool) (b m : ℕ) → is_reached r m ≡ true → is_reached (slice_set r b true) m ≡ true
set_kept [] b m h = h
set_kept (x ∷ r) zero zero h = refl
set_kept (x ∷ r) zero (suc m) h = h
set_kept (x ∷ r) (suc b) zero h = h
set_kept (x ∷ r) (suc b) (suc m) h = set_kept r b m h

set_only : (r : List Bool) (b m : ℕ) → is_reached (slice_set r b true) m ≡ true → (is_reached r m ≡ true) ⊎ (m ≡ b)
set_only [] b m h = inl h
set_only (x ∷ r) zero zero h = inr refl
set_only (x ∷ r) zero (suc m) h = inl h
set_only (x ∷ r) (suc b) zero h = inl h
set_only (x ∷ r) (suc b) (suc m) h = more (set_only r b m h) where
  more : (is_reached r m ≡ true) ⊎ (m ≡ b) → (is_reached r m ≡ true) ⊎ (suc m ≡ suc b)
  more (inl was) = inl was
  more (inr is) = inr (ap suc is)

-- how many numbers are not reached
abbrev pub unreached : List Bool → ℕ
unreached [] = 0
unreached (true ∷ r) = unreached r
unreached (false ∷ r) = suc (unreached r)

set_fewer : (r : List Bool) (b : ℕ) → b < length r → is_reached r b ≡ false → suc (unreached (slice_set r b true)) ≡ unreached r
set_fewer [] b low e = absurd (omega arith)
set_fewer (true ∷ r) zero low e = cc
set_fewer (false ∷ r) zero low e = refl
set_fewer (true ∷ r) (suc b) low e = set_fewer r b (omega arith) e
set_fewer (false ∷ r) (suc b) low e = ap suc (set_fewer r b (omega arith) e)

length_more : (ns : List ℕ) (b : ℕ) → length (ns ++ b ∷ []) ≡ suc (length ns)
length_more [] b = refl
length_more (n ∷ ns) b = ap suc (length_more ns b)

kept_one : (s : State) (b m : ℕ) → is_reached s.0 m ≡ true → is_reached (marked s b).0 m ≡ true
kept_one s b m h = by_case s b (λ t. is_reached t.0 m ≡ true) (λ _. h) (λ _. set_kept s.0 b m h)

new_one : (s : State) (b : ℕ) → b < length s.0 → is_reached (marked s b).0 b ≡ true
new_one s b low = by_case s b (λ t. is_reached t.0 b ≡ true) (λ e. e) (λ _. set_same s.0 b low)

only_one : (s : State) (b m : ℕ) → is_reached (marked s b).0 m ≡ true → (is_reached s.0 m ≡ true) ⊎ (m ≡ b)
only_one s b m = by_case s b (λ t. is_reached t.0 m ≡ true → (is_reached s.0 m ≡ true) ⊎ (m ≡ b)) (λ _ h. inl h) (λ _ h. set_only s.0 b m h)

waits_one : (s : State) (b m : ℕ) → Has s.1 m → Has (marked s b).1 m
waits_one s b m h = by_case s b (λ t. Has t.1 m) (λ _. h) (λ _. has_front s.1 b m h)

waits_only : (s : State) (b m : ℕ) → Has (marked s b).1 m → Has s.1 m ⊎ (m ≡ b)
waits_only s b m = by_case s b (λ t. Has t.1 m → Has s.1 m ⊎ (m ≡ b)) (λ _ h. inl h) (λ _ h. has_either s.1 b m h)

fresh_one : (s : State) (b m : ℕ) → is_reached (marked s b).0 m ≡ true → (is_reached s.0 m ≡ true) ⊎ Has (marked s b).1 m
fresh_one s b m = by_case s b (λ t. is_reached t.0 m ≡ true → (is_reached s.0 m ≡ true) ⊎ Has t.1 m) (λ _ h. inl h) (λ _ h. split (set_only s.0 b m h)) where
  split : (is_reached s.0 m ≡ true) ⊎ (m ≡ b) → (is_reached s.0 m ≡ true) ⊎ Has (s.1 ++ b ∷ []) m
  split (inl was) = inl was
  split (inr is) = inr (subst (λ k. Has (s.1 ++ b ∷ []) k) (sym is) (has_last s.1 b))

abbrev pub left : State → ℕ
left s = unreached s.0 + length s.1

left_one : (s : State) (b : ℕ) → b < length s.0 → left (marked s b) ≡ left s
left_one s b low = by_case s b (λ t. left t ≡ left s) (λ _. refl) (λ e. let a = set_fewer s.0 b low e in let c = length_more s.1 b in omega (arith, a, c))

abbrev all_marked : State → List ℕ → State
all_marked = fold marked

long_all : (ks : List ℕ) (s : State) → length (all_marked s ks).0 ≡ length s.0
long_all [] s = refl
long_all (k ∷ ks) s = long_all ks (marked s k) ∙ marked_long s k

kept_all : (ks : List ℕ) (s : State) (m : ℕ) → is_reached s.0 m ≡ true → is_reached (all_marked s ks).0 m ≡ true
kept_all [] s m h = h
kept_all (k ∷ ks) s m h = kept_all ks (marked s k) m (kept_one s k m h)

waits_all : (ks : List ℕ) (s : State) (m : ℕ) → Has s.1 m → Has (all_marked s ks).1 m
waits_all [] s m h = h
waits_all (k ∷ ks) s m h = waits_all ks (marked s k) m (waits_one s k m h)

low_all : (k : ℕ) (ks : List ℕ) (s : State) → AreBelow (length s.0) (k ∷ ks) → AreBelow (length (marked s k).0) ks
low_all k ks s low = below_next (length s.0) (length (marked s k).0) k ks (k ∷ ks) refl (marked_long s k) low

new_all : (ks : List ℕ) (s : State) (m : ℕ) → AreBelow (length s.0) ks → Has ks m → is_reached (all_marked s ks).0 m ≡ true
new_all [] s m low h = cc
new_all (k ∷ ks) s m low h = split (has_split m k ks h) (λ w. new_all ks (marked s k) m (low_all k ks s low) w) where
  split : (m ≡ k) ⊎ Has ks m → (Has ks m → is_reached (all_marked (marked s k) ks).0 m ≡ true) → is_reached (all_marked (marked s k) ks).0 m ≡ true
  split (inl is) _ = kept_all ks (marked s k) m (subst (λ j. is_reached (marked s k).0 j ≡ true) (sym is) (new_one s k (low k (has_head k k ks refl))))
  split (inr w) more = more w

only_all : (ks : List ℕ) (s : State) (m : ℕ) → is_reached (all_marked s ks).0 m ≡ true → (is_reached s.0 m ≡ true) ⊎ Has ks m
only_all [] s m h = inl h
only_all (k ∷ ks) s m h = split (only_all ks (marked s k) m h) where
  first : (is_reached s.0 m ≡ true) ⊎ (m ≡ k) → (is_reached s.0 m ≡ true) ⊎ Has (k ∷ ks) m
  first (inl was) = inl was
  first (inr is) = inr (has_head m k ks is)

  split : (is_reached (marked s k).0 m ≡ true) ⊎ Has ks m → (is_reached s.0 m ≡ true) ⊎ Has (k ∷ ks) m
  split (inl w) = first (only_one s k m w)
  split (inr w) = inr (has_tail m k ks w)

waits_among : (ks : List ℕ) (s : State) (m : ℕ) → Has (all_marked s ks).1 m → Has s.1 m ⊎ Has ks m
waits_among [] s m h = inl h
waits_among (k ∷ ks) s m h = split (waits_among ks (marked s k) m h) where
  first : Has s.1 m ⊎ (m ≡ k) → Has s.1 m ⊎ Has (k ∷ ks) m
  first (inl was) = inl was
  first (inr is) = inr (has_head m k ks is)

  split : Has (marked s k).1 m ⊎ Has ks m → Has s.1 m ⊎ Has (k ∷ ks) m
  split (inl w) = first (waits_only s k m w)
  split (inr w) = inr (has_tail m k ks w)

fresh_all : (ks : List ℕ) (s : State) (m : ℕ) → is_reached (all_marked s ks).0 m ≡ true → (is_reached s.0 m ≡ true) ⊎ Has (all_marked s ks).1 m
fresh_all [] s m h = inl h
fresh_all (k ∷ ks) s m h = split (fresh_all ks (marked s k) m h) where
  first : (is_reached s.0 m ≡ true) ⊎ Has (marked s k).1 m → (is_reached s.0 m ≡ true) ⊎ Has (all_marked (marked s k) ks).1 m
  first (inl was) = inl was
  first (inr w) = inr (waits_all ks (marked s k) m w)

  split : (is_reached (marked s k).0 m ≡ true) ⊎ Has (all_marked (marked s k) ks).1 m → (is_reached s.0 m ≡ true) ⊎ Has (all_marked (marked s k) ks).1 m
  split (inl w) = first (fresh_one s k m w)
  split (inr w) = inr w

left_all : (ks : List ℕ) (s : State) → AreBelow (length s.0) ks → left (all_marked s ks) ≡ left s
left_all [] s low = refl
left_all (k ∷ ks) s low = left_all ks (marked s k) (low_all k ks s low) ∙ left_one s k (low k (has_head k k ks refl))

-- ---- the walk
through_more : {R : ℕ → ℕ → Type 0} (n a m : ℕ) → Path R n a → R a m → Path R n m
through_more n a m (step x y r) more = further x y m r (step y m more)
through_more n a m (further x y z r p) more = further x y m r (through_more y z m p more)

pub within_set : (targets : List (BTreeSet ℕ)) (i : ℕ) (s : BTreeSet ℕ) → AreWithin targets → slice_get targets i ≡ Some s → AreBelow (length targets) s.keys
within_set targets i s within is b h = within i b (s, is, h)

flag_none : (k m : ℕ) → is_reached (replicate k false) m ≡ true → ⊥
flag_none zero m h = cc
flag_none (suc k) zero h = cc
flag_none (suc k) (suc m) h = flag_none k m h

pub first_walk : (targets : List (BTreeSet ℕ)) (n : ℕ) (reached : List Bool) → n < length targets → reached ≡ replicate (length targets) false → IsWalk targets n reached (n ∷ [])
first_walk targets n reached low is = record {
  long = ap length is ∙ length-replicate (length targets) false;
  low = λ m h. one m (has_split m n [] h);
  sound = λ m h. absurd (none m h);
  seen = λ m h. seen m (has_split m n [] h);
  closed = λ a b h l. closed a b h;
} where
  none : (m : ℕ) → is_reached reached m ≡ true → ⊥
  none m h = flag_none (length targets) m (subst (λ r. is_reached r m ≡ true) is h)

  one : (m : ℕ) → (m ≡ n) ⊎ Has [] m → m < length targets
  one m (inl e) = omega (arith, e)
  one m (inr w) = cc

  seen : (m : ℕ) → (m ≡ n) ⊎ Has [] m → (m ≡ n) ⊎ (is_reached reached m ≡ true)
  seen m (inl e) = inl e
  seen m (inr w) = cc

  closed : (a b : ℕ) → (a ≡ n) ⊎ (is_reached reached a ≡ true) → Has (n ∷ []) a ⊎ (is_reached reached b ≡ true)
  closed a b (inl e) = inl (has_head a n [] e)
  closed a b (inr w) = absurd (none a w)

module _ (targets : List (BTreeSet ℕ)) (within : AreWithin targets) (n a : ℕ) (reached : List Bool) (pending rest : List ℕ) (popped : pending ≡ rest ++ a ∷ []) (set : BTreeSet ℕ) (is : slice_get targets a ≡ Some set) (old : IsWalk targets n reached pending) where
  abbrev new : State
  new = all_marked (reached, rest) set.keys

  rest_has : (m : ℕ) → Has rest m → Has pending m
  rest_has m h = subst (λ l. Has l m) (sym popped) (has_front rest a m h)

  a_has : Has pending a
  a_has = subst (λ l. Has l a) (sym popped) (has_last rest a)

  below : AreBelow (length reached) set.keys
  below = below_kept (length targets) (length reached) set.keys old.long (within_set targets a set within is)

  low : (m : ℕ) → Has rest m ⊎ Has set.keys m → m < length targets
  low m (inl h) = old.low m (rest_has m h)
  low m (inr h) = within a m (set, is, h)

  from_a : (m : ℕ) → Has set.keys m → (a ≡ n) ⊎ (is_reached reached a ≡ true) → Path (IsStep targets) n m
  from_a m h (inl e) = step n m (subst (λ k. IsStep targets k m) e (set, is, h))
  from_a m h (inr r) = through_more n a m (old.sound a r) (set, is, h)

  sound : (m : ℕ) → (is_reached reached m ≡ true) ⊎ Has set.keys m → Path (IsStep targets) n m
  sound m (inl h) = old.sound m h
  sound m (inr h) = from_a m h (old.seen a a_has)

  seen : (m : ℕ) → Has rest m ⊎ Has set.keys m → (m ≡ n) ⊎ (is_reached new.0 m ≡ true)
  seen m (inl h) = was (old.seen m (rest_has m h)) where
    was : (m ≡ n) ⊎ (is_reached reached m ≡ true) → (m ≡ n) ⊎ (is_reached new.0 m ≡ true)
    was (inl e) = inl e
    was (inr r) = inr (kept_all set.keys (reached, rest) m r)
  seen m (inr h) = inr (new_all set.keys (reached, rest) m below h)

  one_set : (s : BTreeSet ℕ) → slice_get targets a ≡ Some s → s ≡ set
  one_set s at = cc

  at_a : (x b : ℕ) → x ≡ a → IsStep targets x b → is_reached new.0 b ≡ true
  at_a x b e (s, at, h) =
      let here : slice_get targets a ≡ Some s = subst (λ k. slice_get targets k ≡ Some s) e at in
      new_all set.keys (reached, rest) b below (subst (λ k. contains nat_cmp k b ≡ true) (one_set s here) h)

  was_closed : (x b : ℕ) → IsStep targets x b → Has pending x ⊎ (is_reached reached b ≡ true) → Has new.1 x ⊎ (is_reached new.0 b ≡ true)
  was_closed x b l (inl h) = was (has_either rest a x (subst (λ k. Has k x) popped h)) where
    was : Has rest x ⊎ (x ≡ a) → Has new.1 x ⊎ (is_reached new.0 b ≡ true)
    was (inl w) = inl (waits_all set.keys (reached, rest) x w)
    was (inr e) = inr (at_a x b e l)
  was_closed x b l (inr r) = inr (kept_all set.keys (reached, rest) b r)

  closed : (x b : ℕ) → (x ≡ n) ⊎ (is_reached new.0 x ≡ true) → IsStep targets x b → Has new.1 x ⊎ (is_reached new.0 b ≡ true)
  closed x b (inl e) l = was_closed x b l (old.closed x b (inl e) l)
  closed x b (inr r) l = split (fresh_all set.keys (reached, rest) x r) where
    split : (is_reached reached x ≡ true) ⊎ Has new.1 x → Has new.1 x ⊎ (is_reached new.0 b ≡ true)
    split (inl w) = was_closed x b l (old.closed x b (inr w) l)
    split (inr w) = inl w

  pub next_walk : IsWalk targets n new.0 new.1
  next_walk = record {
    long = long_all set.keys (reached, rest) ∙ old.long;
    low = λ m h. low m (waits_among set.keys (reached, rest) m h);
    sound = λ m h. sound m (only_all set.keys (reached, rest) m h);
    seen = λ m h. seen m (waits_among set.keys (reached, rest) m h);
    closed = closed;
  }

  pub next_left : left new < unreached reached + length pending
  next_left =
      let same : left new ≡ unreached reached + length rest = left_all set.keys (reached, rest) below in
      let more : length pending ≡ suc (length rest) = ap length popped ∙ length_more rest a in
      omega arith

-- where nothing is to be looked at any more all to which steps lead from n is reached
walked : (targets : List (BTreeSet ℕ)) (n : ℕ) (reached : List Bool) → IsWalk targets n reached [] → (x m : ℕ) → (x ≡ n) ⊎ (is_reached reached x ≡ true) → Path (IsStep targets) x m → is_reached reached m ≡ true
walked targets n reached w x m from (step a b l) = sure (w.closed a b from l) where
  sure : Has [] a ⊎ (is_reached reached b ≡ true) → is_reached reached b ≡ true
  sure (inl h) = cc
  sure (inr r) = r
walked targets n reached w x m from (further a b d l p) = walked targets n reached w b d (inr (sure (w.closed a b from l))) p where
  sure : Has [] a ⊎ (is_reached reached b ≡ true) → is_reached reached b ≡ true
  sure (inl h) = cc
  sure (inr r) = r

pub is_off : (targets : List (BTreeSet ℕ)) (n : ℕ) (reached : List Bool) → IsWalk targets n reached [] → is_reached reached n ≡ false → LeadsBack targets n → ⊥
is_off targets n reached w off on = let r : is_reached reached n ≡ true = walked targets n reached w n n (inl refl) on in absurd (cc (off, r))

-- ---- the lowest
by_lt : {P : Type 0} (m n : ℕ) → (m < n → P) → (n ≤ m → P) → P
by_lt {P} m n below above = elim (nat_lt m n) as (λ b. nat_lt m n ≡ b → P) [ true ↦ λ e. below (grind (arith, nat_tests)) | false ↦ λ e. above (grind (arith, nat_tests)) ] refl

pub lowest_of : (targets : List (BTreeSet ℕ)) (n : ℕ) → LeadsBack targets n → ((m : ℕ) → m < n → LeadsBack targets m → ⊥) → HasLowestOnCycle targets n
lowest_of targets n here none = record { on = here; lowest = λ m on. by_lt m n (λ small. absurd (none m small on)) (λ above. above) }

get_within : {A : Type 0} (xs : List A) (i : ℕ) (x : A) → slice_get xs i ≡ Some x → i < length xs
get_within [] i x is = cc
get_within (y ∷ xs) zero x is = omega arith
get_within (y ∷ xs) (suc i) x is = let h = get_within xs i x is in omega arith

starts : (targets : List (BTreeSet ℕ)) (a b : ℕ) → Path (IsStep targets) a b → a < length targets
starts targets a b (step x y (s, is, h)) = get_within targets x s is
starts targets a b (further x y z (s, is, h) p) = get_within targets x s is

pub none_at_all : (targets : List (BTreeSet ℕ)) (k : ℕ) → length targets ≤ k → ((m : ℕ) → m < k → LeadsBack targets m → ⊥) → HasNoCycle targets
none_at_all targets k all none n on = let low : n < length targets = starts targets n n on in none n (omega arith) on

pub empty_is : (ns : List ℕ) → length ns ≡ 0 → ns ≡ []
empty_is [] h = refl
empty_is (n ∷ ns) h = cc

-- ---- all ranks
pub descends_more : (targets : List (BTreeSet ℕ)) (ranks : List ℕ) (i rank : ℕ) (s : BTreeSet ℕ) → slice_get targets i ≡ Some s → AreUpTo ranks rank s.keys → rank ≤ slice_index ranks i
    → ((a b : ℕ) → a < i → IsStep targets a b → slice_index ranks b ≤ slice_index ranks a) → (a b : ℕ) → a < i + 1 → IsStep targets a b → slice_index ranks b ≤ slice_index ranks a
descends_more targets ranks i rank s is under most old a b low l = by_lt a i (λ small. old a b small l) (λ high. here a (omega arith) l) where
  at_i : IsStep targets i b → slice_index ranks b ≤ slice_index ranks i
  at_i (t, at, h) =
      let own : slice_index ranks b ≤ rank = under b (subst (λ k. contains nat_cmp k b ≡ true) (same_set targets i s t is at) h) in
      omega (arith, own, most)

  here : (x : ℕ) → x ≡ i → IsStep targets x b → slice_index ranks b ≤ slice_index ranks x
  here x e m = subst (λ k. slice_index ranks b ≤ slice_index ranks k) (sym e) (at_i (subst (λ k. IsStep targets k b) e m))

pub descends_all : (targets : List (BTreeSet ℕ)) (ranks : List ℕ) (k : ℕ) → length targets ≤ k → ((a b : ℕ) → a < k → IsStep targets a b → slice_index ranks b ≤ slice_index ranks a) → Descends targets ranks
descends_all targets ranks k all old a b (s, is, h) = let low : a < length targets = get_within targets a s is in old a b (omega arith) (s, is, h)

-- ---- another relation
pub along : (R S : ℕ → ℕ → Type 0) → ((a b : ℕ) → R a b → S a b) → (a b : ℕ) → Path R a b → Path S a b
along R S f a b (step x y r) = step x y (f x y r)
along R S f a b (further x y z r p) = further x y z (f x y r) (along R S f y z p)
