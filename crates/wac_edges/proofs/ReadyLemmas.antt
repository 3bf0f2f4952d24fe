-- What the counts of the edges from those that are left say.
use Rattle.std.proofs.Common.{◌≡◌, ℕ, zero, suc, ◌+◌, ◌-◌, ◌<◌, ◌≤◌, Bool, true, false, not, ◌&&◌, List, [], ◌∷◌, length, refl, ap, sym, ◌∙◌, ◌⊎◌, inl, inr, arith, eqb}
use Rattle.std.specs.Prelude.{◌==◌, nat_lt, slice_set, slice_index}
use Rattle.std.specs.BinaryHeap.{IsUpperBound}
use Rattle.std.specs.Ordering.{nat_cmp, is_lt}
use Rattle.std.specs.declared.cmp.Reverse.{Reverse}
use Rattle.std.specs.declared.cmp.Ordering.{Ordering}
use Rattle.std.specs.declared.cmp.Ordering.TheVariants.{Less, Equal, Greater}
use Rattle.std.proofs.Math.Bool.{and-true}
use Rattle.std.proofs.lemmas.List.{get_or-set_same, get_or-set_other}
use Rattle.std.proofs.lemmas.List.Sums.{sum_by-cons}
use Rattle.std.proofs.lemmas.Bool.{cases_eq, eqb-true, cases_lt, eq-eqb, lt-ltb, ltb-true, ne_eqb, false_from_ne_true}
use Rattle.std.proofs.lemmas.Cmp.{ranked}
use Rattle.wac_edges.specs.declared.node.NodeId.{NodeId}
use Rattle.wac_edges.specs.Edge.{is_left, node_number, IsBlocked, IsFree}
use Rattle.wac_edges.specs.declared.edges.Edge.{Edge}
use Rattle.wac_edges.specs.Order.{Edges, IsLowestReady, IsStuck}
use Rattle.wac_edges.specs.private.Ready.{leading, leads_to, incoming, AreCounted, IsLowestFree, is_left_with, is_set, one, stands}
use Rattle.wac_edges.proofs.CountLemmas.{incoming_none, incoming_some}
use Rattle.wac_edges.proofs.OrderLemmas.{flag_after}
use Rattle.wac_edges.proofs.CycleLemmas.{within}

-- ---- the numbers that are ready
eqb_same : (q b : ℕ) → q ≡ b → one (q == b) ≡ 1
eqb_same q b e = rw (eq-eqb q b e) refl

eqb_other : (q b : ℕ) → (q ≡ b → ⊥) → one (q == b) ≡ 0
eqb_other q b other = rw (ne_eqb q b other) refl

and_split : (a b : Bool) → (a && b) ≡ true → (a ≡ true) × (b ≡ true)
and_split true b h = (refl, h)
and_split false b h = cc

and_both : (a b : Bool) → a ≡ true → b ≡ true → (a && b) ≡ true
and_both true b h k = k
and_both false b h k = cc

and_false : (a : Bool) → (a && false) ≡ false
and_false true = refl
and_false false = refl

pub one_some : (b : Bool) → 0 < one b → b ≡ true
one_some true h = refl
one_some false h = absurd (omega arith)

one_true : (b : Bool) → b ≡ true → one b ≡ 1
one_true b h = rw h refl

one_false : (b : Bool) → b ≡ false → one b ≡ 0
one_false b h = rw h refl

at_count : (flags : List Bool) (counts : List ℕ) (count b : ℕ) → is_left_with flags counts count b ≡ true → (is_set flags b ≡ true) × (slice_index counts b ≡ count)
at_count flags counts count b h = let (left, same) = and_split (is_set flags b) (eqb (slice_index counts b) count) h in (left, eqb-true (slice_index counts b) count same)

with_count : (flags : List Bool) (counts : List ℕ) (count b : ℕ) → is_set flags b ≡ true → slice_index counts b ≡ count → is_left_with flags counts count b ≡ true
with_count flags counts count b left same = and_both (is_set flags b) (eqb (slice_index counts b) count) left (eq-eqb (slice_index counts b) count same)

-- an edge to a number is taken away
taken : (counts : List ℕ) (a q : ℕ) → (q ≡ a → ⊥) → slice_index (slice_set counts a (slice_index counts a - 1)) q ≡ slice_index counts q
taken counts a q other = get_or-set_other counts a q (slice_index counts a - 1) 0 other

-- the edges that are still to be taken away, once one more is
pub released_next : (counts : List ℕ) (e : Edge) (es : List Edge) (q : ℕ) → q < length counts → slice_index (slice_set counts e.target.0 (slice_index counts e.target.0 - 1)) q - leading es q ≡ slice_index counts q - leading (e ∷ es) q
released_next counts e es q small = split (cases_eq q e.target.0) where
  k : ℕ
  k = e.target.0

  less : List ℕ
  less = slice_set counts k (slice_index counts k - 1)

  whole : leading (e ∷ es) q ≡ one (q == k) + leading es q
  whole = sum_by-cons (λ e. one (leads_to q e)) e es

  split : (q ≡ k) ⊎ (q ≡ k → ⊥) → slice_index less q - leading es q ≡ slice_index counts q - leading (e ∷ es) q
  split (inl same) =
      let single = eqb_same q k same in
      let at : slice_index less q ≡ slice_index counts k - 1 = ap (slice_index less) same ∙ get_or-set_same counts k (slice_index counts k - 1) 0 (omega (arith, same)) in
      let was : slice_index counts q ≡ slice_index counts k = ap (slice_index counts) same in
      omega (arith, whole, single, at, was)
  split (inr other) = let none = eqb_other q k other in let at = taken counts k q other in omega (arith, whole, none, at)

-- the numbers that are ready once an edge to one of them is taken away
pub released_yes : (below : ℕ → Bool) (old new : List (Reverse ℕ)) (flags : List Bool) (counts : List ℕ) (a : ℕ) → a < length counts → (below a && is_left_with flags counts 1 a) ≡ true → ((q : ℕ) → stands new q ≡ one (q == a) + stands old q) → ((q : ℕ) → stands old q ≡ one (below q && is_left_with flags counts 0 q))
    → (q : ℕ) → stands new q ≡ one (below q && is_left_with flags (slice_set counts a (slice_index counts a - 1)) 0 q)
released_yes below old new flags counts a low both more was q = split (cases_eq q a) where
  counts' : List ℕ
  counts' = slice_set counts a (slice_index counts a - 1)

  under : below a ≡ true
  under = (and_split (below a) (is_left_with flags counts 1 a) both).0

  here : is_left_with flags counts 1 a ≡ true
  here = (and_split (below a) (is_left_with flags counts 1 a) both).1

  split : (q ≡ a) ⊎ (q ≡ a → ⊥) → stands new q ≡ one (below q && is_left_with flags counts' 0 q)
  split (inl e) =
      let (left, single) = at_count flags counts 1 a here in
      let gone : slice_index counts' a ≡ 0 = get_or-set_same counts a (slice_index counts a - 1) 0 low ∙ omega arith in
      let yes : one (below q && is_left_with flags counts' 0 q) ≡ 1 = one_true (below q && is_left_with flags counts' 0 q) (ap (λ (k : ℕ). below k && is_left_with flags counts' 0 k) e ∙ and_both (below a) (is_left_with flags counts' 0 a) under (with_count flags counts' 0 a left gone)) in
      let same = eqb_same q a e in
      let not : one (below q && is_left_with flags counts 0 q) ≡ 0 = one_false (below q && is_left_with flags counts 0 q) (false_from_ne_true (below q && is_left_with flags counts 0 q) (λ h. let zero' = (at_count flags counts 0 q (and_split (below q) (is_left_with flags counts 0 q) h).1).1 in let at : slice_index counts q ≡ slice_index counts a = ap (slice_index counts) e in absurd (omega arith))) in
      let is = more q in
      let old' = was q in
      omega arith
  split (inr other) =
      let no = eqb_other q a other in
      let is = more q in
      let same : one (below q && is_left_with flags counts' 0 q) ≡ one (below q && is_left_with flags counts 0 q) = ap (λ (k : ℕ). one (below q && (is_set flags q && eqb k 0))) (taken counts a q other) in
      let old' = was q in
      omega arith

pub released_no : (below : ℕ → Bool) (old : List (Reverse ℕ)) (flags : List Bool) (counts : List ℕ) (a : ℕ) → a < length counts → (below a && is_left_with flags counts 1 a) ≡ false → ((q : ℕ) → stands old q ≡ one (below q && is_left_with flags counts 0 q))
    → (q : ℕ) → stands old q ≡ one (below q && is_left_with flags (slice_set counts a (slice_index counts a - 1)) 0 q)
released_no below old flags counts a low here was q = was q ∙ ap one (split (cases_eq q a)) where
  counts' : List ℕ
  counts' = slice_set counts a (slice_index counts a - 1)

  both : (u f : Bool) (k : ℕ) → (u && (f && eqb k 1)) ≡ false → (u && (f && eqb k 0)) ≡ (u && (f && eqb (k - 1) 0))
  both false f k h = refl
  both true false k h = refl
  both true true zero h = refl
  both true true (suc zero) h = cc
  both true true (suc (suc k)) h = ne_eqb (suc (suc k)) 0 (λ (e : suc (suc k) ≡ 0). omega arith) ∙ sym (ne_eqb (suc (suc k) - 1) 0 (λ (e : suc (suc k) - 1 ≡ 0). omega arith))

  split : (q ≡ a) ⊎ (q ≡ a → ⊥) → (below q && is_left_with flags counts 0 q) ≡ (below q && is_left_with flags counts' 0 q)
  split (inl e) =
      let put : slice_index counts' a ≡ slice_index counts a - 1 = get_or-set_same counts a (slice_index counts a - 1) 0 low in
      ap (λ (k : ℕ). below k && is_left_with flags counts 0 k) e ∙ both (below a) (is_set flags a) (slice_index counts a) here ∙ ap (λ (k : ℕ). below a && (is_set flags a && eqb k 0)) (sym put) ∙ ap (λ (k : ℕ). below k && is_left_with flags counts' 0 k) (sym e)
  split (inr other) = ap (λ (k : ℕ). below q && (is_set flags q && eqb k 0)) (sym (taken counts a q other))

-- ---- the node that is written next
no_lower : (rs : List (Reverse ℕ)) (r : Reverse ℕ) → IsUpperBound (λ x y. nat_cmp y.0 x.0) r rs → (q : ℕ) → 0 < stands rs q → r.0 ≤ q
no_lower [] r least q h = absurd (omega arith)
no_lower (x ∷ rs) r (first, rest) q h = split (cases_eq q x.0) (λ more. no_lower rs r rest q more) where
  less : (o : Ordering) → o ≡ nat_cmp x.0 r.0 → x.0 < r.0 → is_lt o ≡ false → ⊥
  less Less is low wrong = cc
  less Equal is low wrong = let h : x.0 ≡ r.0 = ranked x.0 r.0 Equal is in omega arith
  less Greater is low wrong = let h : r.0 < x.0 = ranked x.0 r.0 Greater is in omega arith

  high : (x.0 < r.0) ⊎ (r.0 ≤ x.0) → r.0 ≤ x.0
  high (inl low) = absurd (less (nat_cmp x.0 r.0) refl low first)
  high (inr h) = h

  split : (q ≡ x.0) ⊎ (q ≡ x.0 → ⊥) → (0 < stands rs q → r.0 ≤ q) → r.0 ≤ q
  split (inl e) _ = let above = high (cases_lt x.0 r.0) in omega arith
  split (inr other) more = more (let all = sum_by-cons (λ (r : Reverse ℕ). one (q == r.0)) x rs in let none = eqb_other q x.0 other in omega arith)

pub none_of : (rs : List (Reverse ℕ)) → length rs ≡ 0 → rs ≡ []
none_of [] h = refl
none_of (r ∷ rs) h = absurd (omega arith)

-- the one that was taken stood there
popped_some : (old new : List (Reverse ℕ)) (n : ℕ) → ((q : ℕ) → stands new q + one (q == n) ≡ stands old q) → 0 < stands old n
popped_some old new n fewer = let is = fewer n in let same = eqb_same n n refl in omega arith

-- what is left with a count once a number is left no more
left_after : (flags : List Bool) (counts : List ℕ) (count n q : ℕ) → (q ≡ n → ⊥) → is_left_with (slice_set flags n false) counts count q ≡ is_left_with flags counts count q
left_after flags counts count n q other =
    let kept : is_set (slice_set flags n false) q ≡ is_set flags q = flag_after flags n q ∙ ap (λ (b : Bool). is_set flags q && not b) (ne_eqb q n other) ∙ and-true (is_set flags q) in
    ap (λ (b : Bool). b && eqb (slice_index counts q) count) kept

gone_after : (flags : List Bool) (counts : List ℕ) (count n q : ℕ) → q ≡ n → is_left_with (slice_set flags n false) counts count q ≡ false
gone_after flags counts count n q e =
    let gone : is_set (slice_set flags n false) q ≡ false = flag_after flags n q ∙ ap (λ (b : Bool). is_set flags q && not b) (eq-eqb q n e) ∙ and_false (is_set flags q) in
    ap (λ (b : Bool). b && eqb (slice_index counts q) count) gone

-- the rest of those that are ready once one is taken
ready_next : (below : ℕ → Bool) (old new : List (Reverse ℕ)) (flags : List Bool) (counts : List ℕ) (n : ℕ) → ((q : ℕ) → stands old q ≡ one (below q && is_left_with flags counts 0 q)) → ((q : ℕ) → stands new q + one (q == n) ≡ stands old q)
    → (q : ℕ) → stands new q ≡ one (below q && is_left_with (slice_set flags n false) counts 0 q)
ready_next below old new flags counts n was fewer q = split (cases_eq q n) where
  most : (b : Bool) → one b ≤ 1
  most true = omega arith
  most false = omega arith

  split : (q ≡ n) ⊎ (q ≡ n → ⊥) → stands new q ≡ one (below q && is_left_with (slice_set flags n false) counts 0 q)
  split (inl e) =
      let none : one (below q && is_left_with (slice_set flags n false) counts 0 q) ≡ 0 = one_false (below q && is_left_with (slice_set flags n false) counts 0 q) (ap (λ (b : Bool). below q && b) (gone_after flags counts 0 n q e) ∙ and_false (below q)) in
      let same = eqb_same q n e in
      let once = most (below q && is_left_with flags counts 0 q) in
      let is = fewer q in
      let old' = was q in
      omega arith
  split (inr other) =
      let same : one (below q && is_left_with (slice_set flags n false) counts 0 q) ≡ one (below q && is_left_with flags counts 0 q) = ap (λ (b : Bool). one (below q && b)) (left_after flags counts 0 n q other) in
      let no = eqb_other q n other in
      let is = fewer q in
      let old' = was q in
      omega arith

module _ (flags : List Bool) (counts : List ℕ) (bound : ℕ) (old : List (Reverse ℕ)) (are : (q : ℕ) → stands old q ≡ one (nat_lt q bound && is_left_with flags counts 0 q)) where
  -- the one that is taken from the heap is the lowest
  pub popped_lowest : (new : List (Reverse ℕ)) (r : Reverse ℕ) → IsUpperBound (λ x y. nat_cmp y.0 x.0) r old → ((q : ℕ) → stands new q + one (q == r.0) ≡ stands old q) → IsLowestFree flags counts r.0
  popped_lowest new r least fewer =
      let some : 0 < stands old r.0 = popped_some old new r.0 fewer in
      let (low, here) = and_split (nat_lt r.0 bound) (is_left_with flags counts 0 r.0) (one_some (nat_lt r.0 bound && is_left_with flags counts 0 r.0) (let is = are r.0 in omega (arith, is, some))) in
      let under : r.0 < bound = ltb-true r.0 bound low in
      record {
        here = here;
        lower = λ m small. false_from_ne_true (is_left_with flags counts 0 m) (λ free.
            let both : one (nat_lt m bound && is_left_with flags counts 0 m) ≡ 1 = one_true (nat_lt m bound && is_left_with flags counts 0 m) (and_both (nat_lt m bound) (is_left_with flags counts 0 m) (lt-ltb m bound (omega (arith, small, under))) free) in
            let is = are m in
            let high : r.0 ≤ m = no_lower old r least m (omega (arith, is, both)) in
            absurd (omega (arith, high, small)));
      }

  pub popped_rest : (new : List (Reverse ℕ)) (r : Reverse ℕ) → ((q : ℕ) → stands new q + one (q == r.0) ≡ stands old q) → (q : ℕ) → stands new q ≡ one (nat_lt q bound && is_left_with (slice_set flags r.0 false) counts 0 q)
  popped_rest new r fewer = ready_next (λ q. nat_lt q bound) old new flags counts r.0 are fewer

  -- no number below the bound is ready where the heap has none
  pub none_below : length old ≡ 0 → (m : ℕ) → m < bound → is_left_with flags counts 0 m ≡ false
  none_below empty m small = false_from_ne_true (is_left_with flags counts 0 m) (λ free.
      let both : one (nat_lt m bound && is_left_with flags counts 0 m) ≡ 1 = one_true (nat_lt m bound && is_left_with flags counts 0 m) (and_both (nat_lt m bound) (is_left_with flags counts 0 m) (lt-ltb m bound small) free) in
      let none : stands old m ≡ 0 = ap (λ (rs : List (Reverse ℕ)). stands rs m) (none_of old empty) in
      let is = are m in
      absurd (omega (arith, is, both, none)))

-- behind the one that is found there is none below the new bound
pub found_rest : (flags : List Bool) (counts : List ℕ) (rs : List (Reverse ℕ)) (n : ℕ) → length rs ≡ 0 → ((m : ℕ) → m < n → is_left_with flags counts 0 m ≡ false) → (q : ℕ) → stands rs q ≡ one (nat_lt q (n + 1) && is_left_with (slice_set flags n false) counts 0 q)
found_rest flags counts rs n empty lower q = ap (λ (rs : List (Reverse ℕ)). stands rs q) (none_of rs empty) ∙ sym (one_false (nat_lt q (n + 1) && is_left_with (slice_set flags n false) counts 0 q) (false_from_ne_true (nat_lt q (n + 1) && is_left_with (slice_set flags n false) counts 0 q) (λ h.
    let (low, free) = and_split (nat_lt q (n + 1)) (is_left_with (slice_set flags n false) counts 0 q) h in
    split (ltb-true q (n + 1) low) free (cases_eq q n)))) where
      clash : (b : Bool) → b ≡ true → b ≡ false → ⊥
      clash true h k = cc
      clash false h k = cc

      split : q < n + 1 → is_left_with (slice_set flags n false) counts 0 q ≡ true → (q ≡ n) ⊎ (q ≡ n → ⊥) → ⊥
      split low free (inl e) = clash (is_left_with (slice_set flags n false) counts 0 q) free (gone_after flags counts 0 n q e)
      split low free (inr other) = clash (is_left_with flags counts 0 q) (sym (left_after flags counts 0 n q other) ∙ free) (lower q (below q n low other)) where
        below : (q n : ℕ) → q < n + 1 → (q ≡ n → ⊥) → q < n
        below q n low other = elim (cases_lt q n) [ inl h ↦ h | inr h ↦ absurd (other (omega (arith, low, h))) ]

pub free_here : (flags : List Bool) (counts : List ℕ) (n : ℕ) → IsLowestFree flags counts n → is_set flags n ≡ true
free_here flags counts n lowest = (at_count flags counts 0 n lowest.here).0

-- a number that is not left has no count
pub not_left : (flags : List Bool) (counts : List ℕ) (n : ℕ) → length flags ≤ n → is_left_with flags counts 0 n ≡ false
not_left flags counts n far = false_from_ne_true (is_left_with flags counts 0 n) (λ free. let low = within flags n (at_count flags counts 0 n free).0 in absurd (omega (arith, low, far)))

module _ (edges : Edges) (flags : List Bool) (counts : List ℕ) (long : length counts ≡ length flags) (counted : AreCounted flags edges counts) where
  count_is : (n : ℕ) → is_set flags n ≡ true → slice_index counts n ≡ incoming flags counted.0 n
  count_is n here = let low = within flags n here in counted.2 n (omega (arith, low, long))

  zero_free : (n : NodeId) → is_left flags n ≡ true → slice_index counts n.0 ≡ 0 → IsFree edges (is_left flags) n
  zero_free n here none e stands leads = false_from_ne_true (is_left flags e.source) (λ from.
      incoming_none flags counted.0 n.0 (sym (count_is n.0 here) ∙ none) e ((counted.1.all e).1 stands) (ap (λ (k : NodeId). k.0) (sym leads)) from)

  more_blocked : (m : NodeId) → is_left flags m ≡ true → is_left_with flags counts 0 m.0 ≡ false → IsBlocked edges (is_left flags) m
  more_blocked m here some =
      let count = count_is m.0 here in
      let (e, w, leads, from) = incoming_some flags counted.0 m.0 (positive (incoming flags counted.0 m.0) (λ none. clash (is_left_with flags counts 0 m.0) (with_count flags counts 0 m.0 here (count ∙ none)) some)) in
      (e, (counted.1.all e).0 w, ap node_number (sym leads), from) where
        positive : (k : ℕ) → (k ≡ 0 → ⊥) → 0 < k
        positive zero h = absurd (h refl)
        positive (suc k) h = omega arith

        clash : (b : Bool) → b ≡ true → b ≡ false → ⊥
        clash true h k = cc
        clash false h k = cc

  -- the lowest number that is left and whose count is zero is the node that is written next
  pub lowest_ready : (n : ℕ) → IsLowestFree flags counts n → IsLowestReady edges (is_left flags) (node_number n)
  lowest_ready n lowest =
      let (here, none) = at_count flags counts 0 n lowest.here in
      record {
        here = here;
        free = zero_free (node_number n) here none;
        lower = λ m small left. more_blocked m left (lowest.lower m.0 small);
      }

  pub stuck : ((n : ℕ) → is_left_with flags counts 0 n ≡ false) → IsStuck edges (is_left flags)
  stuck none m here = more_blocked m here (none m.0)
