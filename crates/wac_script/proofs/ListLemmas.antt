-- Facts about words that are taken one by one.
use Rattle.std.proofs.Common.{◌≡◌, refl, ◌+◌, ◌<◌, ◌≤◌, ◌++◌, ◌∷◌, [], ◌∙◌, ℕ, List, ap, sym, subst, length, drop, get_or, append_assoc, append-nil}
use Rattle.std.proofs.lemmas.List.{drop_more, drop_all, map_push}
use Rattle.std.specs.Borrow.{Bor}
use Rattle.std.specs.List.{AllZip}
use Rattle.wac_types_shapes.specs.shapes.Named.{named_pairs, used_pairs}
use Rattle.wac_script.specs.declared.labels.items.Listed.{Listed}
use Rattle.wac_script.specs.private.Listed.{found_by}
use Rattle.wac_script.specs.lines.Words.{Word, spelled, WordByWord}

-- What is found of the words so far, and of any rest.
abbrev pub SoFar : {B : Type 0} → (Word → B → Type 0) → List (Bor (List ℕ)) → ℕ → List B → Type 0
SoFar {B = B} P words i out = (rest : List B) → AllZip P (spelled (drop i words)) rest → AllZip P (spelled words) (out ++ rest)

-- Nothing is found of no words.
pub zip-begin : {B : Type 0} (P : Word → B → Type 0) (words : List (Bor (List ℕ))) (out : List B) → out ≡ [] → SoFar P words 0 out
zip-begin P words out none rest h = subst (λ l. AllZip P (spelled words) (l ++ rest)) (sym none) h

-- It goes on with one word more.
pub zip-step : {B : Type 0} (P : Word → B → Type 0) (words : List (Bor (List ℕ))) (i : ℕ) (d : Bor (List ℕ)) (out more : List B) (b : B)
    → i < length words → P ((get_or words i d).now) b → more ≡ out ++ b ∷ [] → SoFar P words i out → SoFar P words (i + 1) more
zip-step P words i d out more b below here e so_far rest h =
    subst (λ l. AllZip P (spelled words) l) (sym (ap (λ l. l ++ rest) e ∙ append_assoc out (b ∷ []) rest))
    (so_far (b ∷ rest) (subst (λ w. AllZip P (spelled w) (b ∷ rest)) (sym (drop_more words i d below)) (here, h)))

-- It is found of all words.
pub zip-end : {B : Type 0} (P : Word → B → Type 0) (words : List (Bor (List ℕ))) (i : ℕ) (out : List B) → length words ≤ i → SoFar P words i out → AllZip P (spelled words) out
zip-end P words i out past so_far = subst (λ l. AllZip P (spelled words) l) (append-nil out) (so_far [] (subst (λ w. AllZip P (spelled w) []) (sym (drop_all i words past)) tt))

-- One more pair.
pub pairs-push : {V : Type 0} (out more : List (Bor (List ℕ) × V)) (p : Bor (List ℕ) × V) → more ≡ out ++ p ∷ [] → named_pairs more ≡ named_pairs out ++ (p.0.now, p.1) ∷ []
pairs-push out more p e = ap named_pairs e ∙ map_push (λ x. (x.0.now, x.1)) out p

-- The words so far take the first value to this one.
abbrev pub Reached : {S : Type 0} → (Word → S → S → Type 0) → List (Bor (List ℕ)) → ℕ → S → S → Type 0
Reached {S = S} Step words i start now = (end : S) → WordByWord Step (spelled (drop i words)) now end → WordByWord Step (spelled words) start end

-- No word takes a value to itself.
pub walk-begin : {S : Type 0} (Step : Word → S → S → Type 0) (words : List (Bor (List ℕ))) (start now : S) → now ≡ start → Reached Step words 0 start now
walk-begin Step words start now same end h = subst (λ s. WordByWord Step (spelled words) s end) same h

-- One word more.
pub walk-step : {S : Type 0} (Step : Word → S → S → Type 0) (words : List (Bor (List ℕ))) (i : ℕ) (d : Bor (List ℕ)) (start now next : S)
    → i < length words → Step ((get_or words i d).now) now next → Reached Step words i start now → Reached Step words (i + 1) start next
walk-step Step words i d start now next below here reached end h =
    reached end (subst (λ w. WordByWord Step (spelled w) now end) (sym (drop_more words i d below)) (next, here, h))

-- All words.
pub walk-end : {S : Type 0} (Step : Word → S → S → Type 0) (words : List (Bor (List ℕ))) (i : ℕ) (start now : S) → length words ≤ i → Reached Step words i start now → WordByWord Step (spelled words) start now
walk-end Step words i start now past reached = reached now (subst (λ w. WordByWord Step (spelled w) now now) (sym (drop_all i words past)) refl)

-- Nothing is found at first.
pub nothing-found : (l : Listed) → l.uses.items ≡ [] → l.items.items ≡ [] → found_by l ≡ record { uses = []; items = [] }
nothing-found l uses items = λ i. record { uses = ap used_pairs uses i; items = ap named_pairs items i }
