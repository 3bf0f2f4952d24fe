-- A text that is cut at each of a byte, and pieces that are joined by it.
use Rattle.std.proofs.Common.{◌≡◌, ℕ, ◌==◌, ◌&&◌, ◌||◌, Bool, true, false, List, [], ◌∷◌, ◌++◌, refl, sym, ap, ◌∙◌, inl, inr, subst}
use Rattle.std.proofs.lemmas.Bool.{cases_Bool, eqb-true, or_parts, or_from, and_parts, and_from, or_left, or_right}
use Rattle.std.proofs.lemmas.List.Splits.{join_with_byte-slice_split}
use Rattle.std.specs.List.{AllByRecursion, join_with_byte, list_all, onto_first, slice_split}
use Rattle.wac_names.specs.Text.{has}
use Rattle.wac_names.proofs.TextFacts.{same_byte}

-- what passes a test that the byte fails lacks the byte
pub all-lacks : (test : ℕ → Bool) (c : ℕ) (text : List ℕ) → list_all test text ≡ true → test c ≡ false → has c text ≡ false
unfolding has
all-lacks test c [] h out = refl
all-lacks test c (b ∷ rest) h out =
    let p = and_parts (test b) (list_all test rest) h in
    elim (cases_Bool (b == c)) [
      | inl same ↦ let e : test b ≡ test c = ap test (eqb-true b c same) in cc
      | inr other ↦ or_from (b == c) (has c rest) other (all-lacks test c rest p.1 out)
    ]

-- what passes a test passes one that follows from it
pub all-weaker : {X : Type 0} (f g : X → Bool) (xs : List X) → ((x : X) → f x ≡ true → g x ≡ true) → list_all f xs ≡ true → list_all g xs ≡ true
all-weaker f g [] w h = refl
all-weaker f g (x ∷ xs) w h =
    let p = and_parts (f x) (list_all f xs) h in
    and_from (g x) (list_all g xs) (w x p.0) (all-weaker f g xs w p.1)

-- a byte in front of the first piece
onto-all : (q : ℕ → Bool) (x : ℕ) (pieces : List (List ℕ)) → list_all (list_all q) (onto_first x pieces) ≡ true
    → (q x ≡ true) × (list_all (list_all q) pieces ≡ true)
onto-all q x [] h = ((and_parts (q x) true (and_parts (q x && true) true h).0).0, refl)
onto-all q x (piece ∷ pieces) h =
    let p = and_parts (q x && list_all q piece) (list_all (list_all q) pieces) h in
    let r = and_parts (q x) (list_all q piece) p.0 in
    (r.0, and_from (list_all q piece) (list_all (list_all q) pieces) r.1 p.1)

-- where the bytes of each piece pass a test, each byte is the one at which the text was cut, or passes
pub pieces-all : (c : ℕ) (q : ℕ → Bool) (text : List ℕ) → list_all (list_all q) (slice_split (λ b. b == c) text) ≡ true
    → list_all (λ b. (b == c) || q b) text ≡ true
pieces-all c q [] h = refl
pieces-all c q (x ∷ xs) h = elim (cases_Bool (x == c)) [
  | inl same ↦
      let more : list_all (list_all q) (slice_split (λ b. b == c) xs) ≡ true = rw same at h in
      and_from ((x == c) || q x) _ (or_left (x == c) (q x) same) (pieces-all c q xs more)
  | inr other ↦
      let more : list_all (list_all q) (onto_first x (slice_split (λ b. b == c) xs)) ≡ true = rw other at h in
      let p = onto-all q x (slice_split (λ b. b == c) xs) more in
      and_from ((x == c) || q x) _ (or_right (x == c) (q x) p.0) (pieces-all c q xs p.1)
]

-- a text has a first piece
pub pieces-shape : (c : ℕ) (text : List ℕ) → (first : List ℕ) × (others : List (List ℕ)) × (slice_split (λ b. b == c) text ≡ first ∷ others)
pieces-shape c [] = ([], [], refl)
pieces-shape c (x ∷ xs) = elim (cases_Bool (x == c)) [
  | inl same ↦ ([], slice_split (λ b. b == c) xs, rw same refl)
  | inr other ↦ let r = pieces-shape c xs in (x ∷ r.0, r.1, rw (other, r.2) refl)
]

-- a piece without the byte, alone
split-alone : (c : ℕ) (a : List ℕ) → has c a ≡ false → slice_split (λ b. b == c) a ≡ a ∷ []
unfolding has
split-alone c [] h = refl
split-alone c (x ∷ a) h =
    let p = or_parts (x == c) (has c a) h in
    rw (p.0, split-alone c a p.1) refl

-- a piece without the byte, then the byte
split-first : (c : ℕ) (a rest : List ℕ) → has c a ≡ false → slice_split (λ b. b == c) (a ++ c ∷ rest) ≡ a ∷ slice_split (λ b. b == c) rest
unfolding has
split-first c [] rest h = rw (same_byte c) refl
split-first c (x ∷ a) rest h =
    let p = or_parts (x == c) (has c a) h in
    rw (p.0, split-first c a rest p.1) refl

-- pieces that lack the byte come back from what they join to
pub split-join : (c : ℕ) (first : List ℕ) (others : List (List ℕ)) → has c first ≡ false → AllByRecursion (λ x. has c x ≡ false) others
    → slice_split (λ b. b == c) (join_with_byte c (first ∷ others)) ≡ first ∷ others
split-join c first [] h t = split-alone c first h
split-join c first (next ∷ others) h t =
    split-first c first (join_with_byte c (next ∷ others)) h
    ∙ ap (λ (l : List (List ℕ)). first ∷ l) (split-join c next others t.0 t.1)

-- a test that holds of each, as facts
pub facts-of_all : {X : Type 0} (f : X → Bool) (P : X → Type 0) (xs : List X) → ((x : X) → f x ≡ true → P x) → list_all f xs ≡ true → AllByRecursion P xs
facts-of_all f P [] w h = tt
facts-of_all f P (x ∷ xs) w h =
    let p = and_parts (f x) (list_all f xs) h in
    (w x p.0, facts-of_all f P xs w p.1)

-- facts of each, as a test
pub all-of_facts : {X : Type 0} (f : X → Bool) (P : X → Type 0) (xs : List X) → ((x : X) → P x → f x ≡ true) → AllByRecursion P xs → list_all f xs ≡ true
all-of_facts f P [] w h = refl
all-of_facts f P (x ∷ xs) w h = and_from (f x) (list_all f xs) (w x h.0) (all-of_facts f P xs w h.1)

-- facts of each, from others
pub facts-weaker : {X : Type 0} (P Q : X → Type 0) (xs : List X) → ((x : X) → P x → Q x) → AllByRecursion P xs → AllByRecursion Q xs
facts-weaker P Q [] w h = tt
facts-weaker P Q (x ∷ xs) w h = (w x h.0, facts-weaker P Q xs w h.1)

-- pieces with a fact, joined
pub record Joined (c : ℕ) (P : List ℕ → Type 0) (text : List ℕ) : Type 0 where
  pub first : List ℕ
  pub others : List (List ℕ)
  pub of_first : P first
  pub of_others : AllByRecursion P others
  pub whole : text ≡ join_with_byte c (first ∷ others)

-- a text whose pieces pass a test
pub joined-of_pieces : (c : ℕ) (f : List ℕ → Bool) (P : List ℕ → Type 0) (text : List ℕ) → ((x : List ℕ) → f x ≡ true → P x)
    → list_all f (slice_split (λ b. b == c) text) ≡ true → Joined c P text
joined-of_pieces c f P text w h =
    let s = pieces-shape c text in
    let all : list_all f (s.0 ∷ s.1) ≡ true = subst (λ (l : List (List ℕ)). list_all f l ≡ true) s.2 h in
    let p = and_parts (f s.0) (list_all f s.1) all in
    record {
      first = s.0;
      others = s.1;
      of_first = w s.0 p.0;
      of_others = facts-of_all f P s.1 w p.1;
      whole = sym (join_with_byte-slice_split c text) ∙ ap (join_with_byte c) s.2;
    }

-- the pieces of a text that joins what passes a test
pub pieces-of_joined : (c : ℕ) (f : List ℕ → Bool) (P : List ℕ → Type 0) (text : List ℕ) → ((x : List ℕ) → P x → f x ≡ true)
    → ((x : List ℕ) → P x → has c x ≡ false) → Joined c P text → list_all f (slice_split (λ b. b == c) text) ≡ true
pieces-of_joined c f P text w lacks j =
    rw (j.whole, split-join c j.first j.others (lacks j.first j.of_first) (facts-weaker P (λ x. has c x ≡ false) j.others lacks j.of_others))
    (and_from (f j.first) (list_all f j.others) (w j.first j.of_first) (all-of_facts f P j.others w j.of_others))
