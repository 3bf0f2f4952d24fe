-- Facts about words that are not read.
use Rattle.std.proofs.Common.{◌≡◌, ◌≢◌, ◌⊎◌, ◌<◌, ◌≤◌, ◌+◌, ◌++◌, ◌∷◌, [], ◌∙◌, refl, ap, sym, subst, inl, inr, arith, ℕ, zero, suc, add-one, List, Option, Some, None, Result, Ok, Err, length, drop, get_or}
use Rattle.std.specs.Prelude.{MatchResult}
use Rattle.std.specs.Result.{IsErrAnd}
use Rattle.std.specs.Borrow.{Bor}
use Rattle.std.specs.List.{AllZip}
use Rattle.std.proofs.lemmas.List.{drop_more, drop_all, append_cancel_left}
use Rattle.wac_types_shapes.specs.declared.shapes.named.ShapeError.{ShapeError}
use Rattle.wac_types_shapes.specs.declared.shapes.named.ShapeError.TheVariants as shape_error
use Rattle.wac_script.specs.declared.labels.faults.WordError.{WordError}
use Rattle.wac_script.specs.declared.labels.faults.WordError.TheVariants as word_error
use Rattle.wac_script.specs.lines.Words.{Word, spelled, IsSplitAt, WordByWord}
use Rattle.wac_script.specs.labels.Things.{IsWordMemory, SayNone}
use Rattle.wac_script.specs.private.Unread.{IsUnread, word_error_of}

-- An error is handed on.
pub exit : {A : Type 0} (P : A → Type 0) (N : Type 0) {M : Type 0} (r : Result A WordError) (e : WordError) → IsErrAnd r (λ x. x ≡ e) → IsUnread M e → (M → N) → MatchResult r P (IsUnread N)
exit P N (Ok a) e h reason f = absurd h
exit P N (Err x) e h reason f = subst (λ y. IsUnread N y) (sym h) (elim reason [ inl m ↦ inl m | inr n ↦ inr (f n) ])

-- Memory runs out.
pub exit-memory : {A : Type 0} (P : A → Type 0) (N : Type 0) (r : Result A WordError) → IsErrAnd r (λ x. x ≡ word_error.OutOfMemory) → MatchResult r P (IsUnread N)
exit-memory P N (Ok a) h = absurd h
exit-memory P N (Err x) h = subst (λ y. IsUnread N y) (sym h) (inl tt)

pub exit-only : {A : Type 0} (P : A → Type 0) (r : Result A WordError) → IsErrAnd r (λ x. x ≡ word_error.OutOfMemory) → MatchResult r P IsWordMemory
exit-only P (Ok a) h = absurd h
exit-only P (Err x) h = subst (λ y. IsWordMemory y) (sym h) tt

-- A shape is not built.
pub exit-shape : {A : Type 0} (P : A → Type 0) (N : Type 0) (r : Result A WordError) (s : ShapeError) → IsErrAnd r (λ x. x ≡ word_error_of s) → (s ≡ shape_error.NameTwice → N) → MatchResult r P (IsUnread N)
exit-shape P N (Ok a) s h twice = absurd h
exit-shape P N (Err x) shape_error.OutOfMemory h twice = subst (λ y. IsUnread N y) (sym h) (inl tt)
exit-shape P N (Err x) shape_error.NameTwice h twice = subst (λ y. IsUnread N y) (sym h) (inr (twice refl))

-- Lists with the same first item, and the same other items.
pub same-first : {A : Type 0} (a b : A) (xs ys : List A) → a ∷ xs ≡ b ∷ ys → a ≡ b
same-first a b xs ys e = cc

pub same-rest : {A : Type 0} (a b : A) (xs ys : List A) → a ∷ xs ≡ b ∷ ys → xs ≡ ys
same-rest a b xs ys e = cc

-- What lacks a byte does not begin with it, and its rest lacks the byte.
lacks-first : (b a : ℕ) (x : List ℕ) → ((k : ℕ) → k < length (a ∷ x) → get_or (a ∷ x) k 0 ≢ b) → a ≢ b
lacks-first b a x lacks = lacks 0 (omega arith)

lacks-rest : (b a : ℕ) (x : List ℕ) → ((k : ℕ) → k < length (a ∷ x) → get_or (a ∷ x) k 0 ≢ b) → (k : ℕ) → k < length x → get_or x k 0 ≢ b
lacks-rest b a x lacks k below = lacks (suc k) (omega arith)

-- A word is split at the first byte in one way.
one-split : (b : ℕ) (w x y u v : List ℕ) → w ≡ x ++ b ∷ y → w ≡ u ++ b ∷ v → ((k : ℕ) → k < length x → get_or x k 0 ≢ b) → ((k : ℕ) → k < length u → get_or u k 0 ≢ b)
    → (x ≡ u) × (y ≡ v)
one-split b w [] y [] v h k here there = (refl, same-rest b b y v (sym h ∙ k))
one-split b w [] y (c ∷ u) v h k here there = absurd (lacks-first b c u there (sym (same-first b c y (u ++ b ∷ v) (sym h ∙ k))))
one-split b w (a ∷ x) y [] v h k here there = absurd (lacks-first b a x here (same-first a b (x ++ b ∷ y) v (sym h ∙ k)))
one-split b w (a ∷ x) y (c ∷ u) v h k here there =
    let both : a ∷ (x ++ b ∷ y) ≡ c ∷ (u ++ b ∷ v) = sym h ∙ k in
    let rest = one-split b (x ++ b ∷ y) x y u v refl (same-rest a c (x ++ b ∷ y) (u ++ b ∷ v) both) (lacks-rest b a x here) (lacks-rest b c u there) in
    (ap (λ z. z ∷ x) (same-first a c (x ++ b ∷ y) (u ++ b ∷ v) both) ∙ ap (λ l. c ∷ l) rest.0, rest.1)

pub split-once : (b : ℕ) (w x y u v : List ℕ) → IsSplitAt b w x y → IsSplitAt b w u v → (x ≡ u) × (y ≡ v)
split-once b w x y u v h k = one-split b w x y u v h.0 k.0 h.1 k.1

-- A word without the byte is not split.
lacks-all : (b : ℕ) (x y : List ℕ) → ((k : ℕ) → k < length (x ++ b ∷ y) → get_or (x ++ b ∷ y) k 0 ≢ b) → ⊥
lacks-all b [] y lacks = lacks-first b b y lacks refl
lacks-all b (a ∷ x) y lacks = lacks-all b x y (lacks-rest b a (x ++ b ∷ y) lacks)

pub no-split : (b : ℕ) (w x y : List ℕ) → ((k : ℕ) → k < length w → get_or w k 0 ≢ b) → IsSplitAt b w x y → ⊥
no-split b w x y lacks h = lacks-all b x y (subst (λ l. (k : ℕ) → k < length l → get_or l k 0 ≢ b) h.0 lacks)

-- What words say of each, each of them says.
pub zip-taken : {B : Type 0} (P : Word → B → Type 0) (words : List (Bor (List ℕ))) (i : ℕ) (d : Bor (List ℕ)) (bs : List B)
    → i < length words → AllZip P (spelled words) bs → (b : B) × P ((get_or words i d).now) b
zip-taken P [] i d bs below h = absurd (none i below)
  where
    none : (i : ℕ) → i < 0 → ⊥
    none i l = omega arith
zip-taken P (w ∷ words) i d [] below h = absurd h
zip-taken P (w ∷ words) zero d (b ∷ bs) below h = (b, h.0)
zip-taken P (w ∷ words) (suc i) d (b ∷ bs) below h = zip-taken P words i d bs (omega arith) h.1

-- A word that says nothing is among them.
pub zip-none : {B : Type 0} (P : Word → B → Type 0) (words : List (Bor (List ℕ))) (i : ℕ) (d : Bor (List ℕ))
    → i < length words → SayNone (P ((get_or words i d).now)) → SayNone (AllZip P (spelled words))
zip-none P words i d below none bs h = let taken = zip-taken P words i d bs below h in none taken.0 taken.1

-- Each word takes a value to the next.
pub walk-taken : {S : Type 0} (Step : Word → S → S → Type 0) (words : List (Bor (List ℕ))) (i : ℕ) (d : Bor (List ℕ)) (start end : S)
    → i < length words → WordByWord Step (spelled words) start end → (a : S) × (b : S) × Step ((get_or words i d).now) a b
walk-taken Step [] i d start end below h = absurd (none i below)
  where
    none : (i : ℕ) → i < 0 → ⊥
    none i l = omega arith
walk-taken Step (w ∷ words) zero d start end below h = (start, h.0, h.1)
walk-taken Step (w ∷ words) (suc i) d start end below h = walk-taken Step words i d h.0 end (omega arith) h.2

-- A word that takes no value anywhere is among them.
pub walk-none : {S : Type 0} (Step : Word → S → S → Type 0) (words : List (Bor (List ℕ))) (i : ℕ) (d : Bor (List ℕ))
    → i < length words → ((a : S) → SayNone (Step ((get_or words i d).now) a)) → (start end : S) → WordByWord Step (spelled words) start end → ⊥
walk-none Step words i d below none start end h = let taken = walk-taken Step words i d start end below h in none taken.0 taken.1 taken.2

-- Each step leads to one value.
abbrev pub IsOneWay : {S : Type 0} → (Word → S → S → Type 0) → Type 0
IsOneWay {S = S} Step = (word : Word) (a b c : S) → Step word a b → Step word a c → b ≡ c

-- What is left of a walk.
abbrev pub Left : {S : Type 0} → (Word → S → S → Type 0) → List (Bor (List ℕ)) → ℕ → S → S → Type 0
Left {S = S} Step words i start now = (end : S) → WordByWord Step (spelled words) start end → WordByWord Step (spelled (drop i words)) now end

pub left-begin : {S : Type 0} (Step : Word → S → S → Type 0) (words : List (Bor (List ℕ))) (start now : S) → now ≡ start → Left Step words 0 start now
left-begin Step words start now same end h = subst (λ s. WordByWord Step (spelled words) s end) (sym same) h

pub left-step : {S : Type 0} (Step : Word → S → S → Type 0) (words : List (Bor (List ℕ))) (i : ℕ) (d : Bor (List ℕ)) (start now next : S)
    → IsOneWay Step → i < length words → Step ((get_or words i d).now) now next → Left Step words i start now → Left Step words (i + 1) start next
left-step Step words i d start now next one below here left end h =
    let more = subst (λ w. WordByWord Step (spelled w) now end) (drop_more words i d below) (left end h) in
    subst (λ s. WordByWord Step (spelled (drop (i + 1) words)) s end) (one ((get_or words i d).now) now more.0 next more.1 here) more.2

pub left-stuck : {S : Type 0} (Step : Word → S → S → Type 0) (words : List (Bor (List ℕ))) (i : ℕ) (d : Bor (List ℕ)) (start now : S)
    → i < length words → SayNone (Step ((get_or words i d).now) now) → Left Step words i start now → SayNone (WordByWord Step (spelled words) start)
left-stuck Step words i d start now below none left end h =
    let more = subst (λ w. WordByWord Step (spelled w) now end) (drop_more words i d below) (left end h) in none more.0 more.1

pub left-end : {S : Type 0} (Step : Word → S → S → Type 0) (words : List (Bor (List ℕ))) (i : ℕ) (start now end : S)
    → length words ≤ i → Left Step words i start now → WordByWord Step (spelled words) start end → end ≡ now
left-end Step words i start now end past left h = subst (λ w. WordByWord Step (spelled w) now end) (drop_all i words past) (left end h)

-- A walk leads to one value.
pub walk-once : {S : Type 0} (Step : Word → S → S → Type 0) (words : List Word) (a b c : S) → IsOneWay Step → WordByWord Step words a b → WordByWord Step words a c → b ≡ c
walk-once Step [] a b c one h k = h ∙ sym k
walk-once Step (w ∷ words) a b c one h k =
    walk-once Step words h.0 b c one h.2 (subst (λ s. WordByWord Step words s c) (one w a k.0 h.0 k.1 h.1) k.2)
