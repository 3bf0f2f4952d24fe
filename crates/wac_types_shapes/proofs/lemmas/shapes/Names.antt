-- Names, and lists under names.
use Rattle.std.proofs.Common.{ℕ, zero, suc, Bool, true, false, not, cond, get_or, nat_eq, ◌&&◌, ◌≡◌, ◌≢◌, ◌<◌, ◌+◌, add-one, refl, sym, ap, ◌∙◌, arith, List, [], ◌∷◌, ◌++◌, length, slice_get, take, take-suc, Option, Some, None}
use Rattle.std.proofs.lemmas.Bool.{both_ways, cond-true, cond-false, false_from_ne_true, not-false, not-true}
use Rattle.std.proofs.lemmas.Map.Entries.{place_from_lookup}
use Rattle.std.proofs.lemmas.Map.Made.{lookup_key_passes}
use Rattle.std.proofs.lemmas.Option.{get_or_from_slice_get, slice_get-get_or, slice_get-map, slice_get_within}
use Rattle.std.specs.Borrow.{Bor}
use Rattle.std.specs.Cmp.Lexicographic.{bytes_decides}
use Rattle.std.specs.Map.{lookup, lookup_key}
use Rattle.std.specs.Option.{option_map, option_copied}
use Rattle.std.specs.Str.{bytes_eq}
use Rattle.wac_types_shapes.specs.primitives.Name.{Name, same_name, find_name}
use Rattle.wac_types_shapes.specs.shapes.Named.{named_at, named_pairs, NoNameTwice}

-- both of two tests, and the second where the first passes
pub both_cond : (p q : Bool) → (p && q) ≡ cond p q false
both_cond true q = refl
both_cond false q = refl

-- the test is that of texts
pub same_name-bytes_eq : (a b : Name) → bytes_eq a b ≡ same_name a b
same_name-bytes_eq [] [] = refl
same_name-bytes_eq [] (y ∷ ys) = refl
same_name-bytes_eq (x ∷ xs) [] = refl
same_name-bytes_eq (x ∷ xs) (y ∷ ys) = ap (λ b. nat_eq x y && b) (same_name-bytes_eq xs ys) ∙ both_cond (nat_eq x y) (same_name xs ys)

-- names that pass the test are equal
pub same_name-true : (a b : Name) → same_name a b ≡ true → a ≡ b
same_name-true a b h = (bytes_decides a b).0 (same_name-bytes_eq a b ∙ h)

pub same_name-from : (a b : Name) → a ≡ b → same_name a b ≡ true
same_name-from a b e = sym (same_name-bytes_eq a b) ∙ (bytes_decides a b).1 e

pub same_name-refl : (a : Name) → same_name a a ≡ true
same_name-refl a = same_name-from a a refl

pub same_name-false : (a b : Name) → same_name a b ≡ false → a ≢ b
same_name-false a b h e = both_ways (same_name a b) h (same_name-from a b e)

-- the other way round
pub same_name-sym : (a b : Name) → same_name a b ≡ false → same_name b a ≡ false
same_name-sym a b h = false_from_ne_true (same_name b a) (λ t. same_name-false a b h (sym (same_name-true b a t)))

-- texts that a comparison tells apart, or not
pub ne-false : (r : Bool) (a b : Name) → r ≡ not (bytes_eq a b) → r ≡ false → a ≡ b
ne-false r a b e f = (bytes_decides a b).0 (not-false (bytes_eq a b) (sym e ∙ f))

pub ne-true : (r : Bool) (a b : Name) → r ≡ not (bytes_eq a b) → r ≡ true → a ≢ b
ne-true r a b e f same = both_ways (bytes_eq a b) (not-true (bytes_eq a b) (sym e ∙ f)) ((bytes_decides a b).1 same)

-- a look-up that finds nothing passes over the first
pub passes_over : {A : Type 0} (b : Bool) (x : A) (o : Option A) → cond b (Some x) o ≡ None → (b ≡ false) × (o ≡ None)
passes_over true x o h = cc h
passes_over false x o h = (refl, h)

module _ {V : Type 0} where
  -- what stands under a name is what a look-up finds
  pub found_by_name : (es : List (Name × V)) (n : Name) → lookup (same_name n) es ≡ find_name es n
  found_by_name [] n = refl
  found_by_name (e ∷ es) n = ap (cond (same_name n e.0) (Some e.1)) (found_by_name es n)

  -- a name that none has is not among those behind the first, nor is it the first
  pub none_behind : (e : Name × V) (es : List (Name × V)) (n : Name) → find_name (e ∷ es) n ≡ None → (same_name n e.0 ≡ false) × (find_name es n ≡ None)
  none_behind e es n h = passes_over (same_name n e.0) e.1 (find_name es n) h

  -- what an entry stands under is found
  pub found_at : (es : List (Name × V)) (j : ℕ) (m : Name) (v : V) → slice_get es j ≡ Some (m, v) → find_name es m ≢ None
  found_at [] j m v h none = cc
  found_at (e ∷ es) zero m v h none =
      let first : e ≡ (m, v) = cc in
      same_name-false m e.0 (none_behind e es m none).0 (sym (ap (λ x. x.0) first))
  found_at (e ∷ es) (suc j) m v h none = found_at es j m v h (none_behind e es m none).1

  -- the name of a later entry is not that of the first
  later : (e : Name × V) (es : List (Name × V)) (j : ℕ) (m : Name) (v : V) → NoNameTwice (e ∷ es) → slice_get es j ≡ Some (m, v) → same_name m e.0 ≡ false
  later e es j m v once h = false_from_ne_true (same_name m e.0) (λ t. found_at es j m v h (ap (find_name es) (same_name-true m e.0 t) ∙ once.0))

  -- where no name stands twice, the entry at a position is the one under its name
  pub find_name-at : (es : List (Name × V)) (j : ℕ) (m : Name) (v : V) → NoNameTwice es → slice_get es j ≡ Some (m, v) → find_name es m ≡ Some v
  find_name-at [] j m v once h = cc
  find_name-at (e ∷ es) zero m v once h =
      let first : e ≡ (m, v) = cc in
      cond-true _ _ _ (same_name-from m e.0 (sym (ap (λ x. x.0) first))) ∙ ap (λ x. Some x.1) first
  find_name-at (e ∷ es) (suc j) m v once h = cond-false _ _ _ (later e es j m v once h) ∙ find_name-at es j m v once.1 h

  pub named_at-at : (es : List (Name × V)) (i j : ℕ) (m : Name) (v : V) → NoNameTwice es → slice_get es j ≡ Some (m, v) → named_at i m es ≡ Some (i + j, v)
  named_at-at [] i j m v once h = cc
  named_at-at (e ∷ es) i zero m v once h =
      let first : e ≡ (m, v) = cc in
      let at : i ≡ i + 0 = omega arith in
      cond-true _ _ _ (same_name-from m e.0 (sym (ap (λ x. x.0) first))) ∙ (λ k. Some (at k, (first k).1))
  named_at-at (e ∷ es) i (suc j) m v once h =
      let at : suc i + j ≡ i + suc j = omega arith in
      cond-false _ _ _ (later e es j m v once h) ∙ named_at-at es (suc i) j m v once.1 h ∙ ap (λ k. Some (k, v)) at

  pub named_at-none : (es : List (Name × V)) (i : ℕ) (n : Name) → find_name es n ≡ None → named_at i n es ≡ None
  named_at-none [] i n h = refl
  named_at-none (e ∷ es) i n h =
      let b = none_behind e es n h in
      cond-false _ _ _ b.0 ∙ named_at-none es (suc i) n b.1

  -- where what is found under a name stands
  pub find_position : (es : List (Name × V)) (n : Name) (v : V) → find_name es n ≡ Some v → (j : ℕ) × (j < length es) × (slice_get es j ≡ Some (n, v))
  find_position es n v h =
      let p = place_from_lookup (same_name n) es v (found_by_name es n ∙ h) in
      (p.0, slice_get_within es p.0 (p.1, v) p.2, p.2 ∙ ap (λ m. Some (m, v)) (sym (same_name-true n p.1 p.3)))

  -- where no name stands twice, a name is not among those before it
  pub none_before : (es : List (Name × V)) (i : ℕ) (n : Name) (v : V) → NoNameTwice es → slice_get es i ≡ Some (n, v) → find_name (take i es) n ≡ None
  none_before [] i n v once h = cc
  none_before (e ∷ es) zero n v once h = refl
  none_before (e ∷ es) (suc i) n v once h = cond-false _ _ _ (later e es i n v once h) ∙ none_before es i n v once.1 h

  -- a new name behind the others
  find_name-push : (es : List (Name × V)) (m n : Name) (v : V) → find_name es m ≡ None → same_name m n ≡ false → find_name (es ++ (n, v) ∷ []) m ≡ None
  find_name-push [] m n v h f = cond-false _ _ _ f
  find_name-push (e ∷ es) m n v h f =
      let b = none_behind e es m h in
      cond-false _ _ _ b.0 ∙ find_name-push es m n v b.1 f

  pub NoNameTwice-push : (es : List (Name × V)) (n : Name) (v : V) → NoNameTwice es → find_name es n ≡ None → NoNameTwice (es ++ (n, v) ∷ [])
  NoNameTwice-push [] n v once h = (refl, tt)
  NoNameTwice-push (e ∷ es) n v once h =
      let b = none_behind e es n h in
      (find_name-push es e.0 n v once.0 (same_name-sym n e.0 b.0), NoNameTwice-push es n v once.1 b.1)

-- what is not there gives nothing
pub nothing_there : {V : Type 0} (o : Option (Bor V)) (p : Option V) → ((x : Bor V) → o ≡ Some x → ⊥) → option_copied o ≡ p → p ≡ None
nothing_there None p f e = sym e
nothing_there (Some x) p f e = absurd (f x refl)

-- a key that passes the test
pub key_passes : {K V : Type 0} (test : K → Bool) (es : List (K × V)) (k : K) → lookup_key test es ≡ Some k → test k ≡ true
key_passes test es k h = lookup_key_passes test es k h

pub named_pairs-at : {V : Type 0} (ps : List (Bor (List ℕ) × V)) (i : ℕ) (b : Bor (List ℕ)) (v : V) → slice_get ps i ≡ Some (b, v) → slice_get (named_pairs ps) i ≡ Some (b.now, v)
named_pairs-at {V} ps i b v h = slice_get-map (λ (e : Bor (List ℕ) × V). (e.0.now, e.1)) ps i ∙ ap (option_map (λ (e : Bor (List ℕ) × V). (e.0.now, e.1))) h

pub take_at : {A : Type 0} (xs : List A) (i : ℕ) (x : A) → slice_get xs i ≡ Some x → take (suc i) xs ≡ take i xs ++ x ∷ []
take_at xs i x h = take-suc xs i x (slice_get_within xs i x h) ∙ ap (λ y. take i xs ++ y ∷ []) (get_or_from_slice_get xs i x x h)

pub taken : {A : Type 0} (xs : List A) (i : ℕ) (x : A) → slice_get xs i ≡ Some x → take i xs ++ x ∷ [] ≡ take (i + 1) xs
taken xs i x h = sym (rw add-one (take_at xs i x h))

-- the element that an index reads
pub element_at : {A : Type 0} (xs : List A) (i : ℕ) (d : A) → i < length xs → slice_get xs i ≡ Some (get_or xs i d)
element_at xs i d lt = slice_get-get_or xs i d lt
