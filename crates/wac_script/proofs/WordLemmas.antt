-- Facts about words.
use Rattle.std.proofs.Common.{◌≡◌, ◌≢◌, ◌<◌, ◌+◌, ◌++◌, ◌∷◌, [], ◌∙◌, ℕ, List, Some, None, Option, ap, sym, subst, length, take, drop, get_or, append_assoc, append-nil, take-append-drop}
use Rattle.std.proofs.lemmas.List.{drop_more, take_more, map_push, map-append}
use Rattle.std.specs.Prelude.{MatchOption}
use Rattle.std.specs.Borrow.{Bor}
use Rattle.std.specs.List.{AllByRecursion}
use Rattle.std.specs.Char.{is_not_whitespace}
use Rattle.std.specs.Str.{NoCharPasses}
use Rattle.std.specs.Str.Iter.{split_whitespace_steps, split_whitespace_rest}
use Rattle.std.specs.Str.Pattern.{FindsTextPrefix, StripsPrefix}
use Rattle.std.specs.declared.str.SplitWhitespace.{SplitWhitespace}
use Rattle.wac_script.specs.lines.Words.{Word, spelled, HasNoPrefix, AreWords, none, comment, more, IsFirstWord, BeginsComment}

-- What `strip_prefix` says at a text.
pub stripped : (p s : List ℕ) (r : Option (Bor (List ℕ))) → MatchOption r (FindsTextPrefix p s None) (λ x. StripsPrefix (FindsTextPrefix p) s x.now) → MatchOption r (HasNoPrefix p s) (λ x. s ≡ p ++ x.now)
stripped p s None h = h
stripped p s (Some x) h = h.1.1 ∙ ap (λ l. p ++ l) (sym h.2)

-- What follows a `#`.
pub hashed : (s : List ℕ) (r : Option (Bor (List ℕ))) → MatchOption r ((rest : List ℕ) → s ≢ 35 ∷ rest) (λ x. s ≡ 35 ∷ x.now) → MatchOption r (BeginsComment s → ⊥) (λ x. s ≡ 35 ∷ x.now)
hashed s None h = λ begins. h begins.0 begins.1
hashed s (Some x) h = h

-- One more item of which a fact holds.
pub all-push : {A : Type 0} (P : A → Type 0) (xs : List A) (x : A) → AllByRecursion P xs → P x → AllByRecursion P (xs ++ x ∷ [])
all-push P [] x all here = (here, tt)
all-push P (y ∷ xs) x all here = (all.0, all-push P xs x all.1 here)

-- No word so far is the mark, and the next is none.
pub mark-later : (mark : Word) (words : List (Bor (List ℕ))) (i : ℕ) (d : Bor (List ℕ)) → i < length words → (get_or words i d).now ≢ mark
    → AllByRecursion (λ word. word ≢ mark) (spelled (take i words)) → AllByRecursion (λ word. word ≢ mark) (spelled (take (i + 1) words))
mark-later mark words i d below other all =
    subst (λ ws. AllByRecursion (λ word. word ≢ mark) ws) (sym (ap spelled (take_more words i d below) ∙ map_push (λ w. w.now) (take i words) (get_or words i d)))
    (all-push (λ word. word ≢ mark) (spelled (take i words)) ((get_or words i d).now) all other)

-- The words are those before the mark, the mark, and those after it.
pub mark-here : (mark : Word) (words : List (Bor (List ℕ))) (i : ℕ) (d : Bor (List ℕ)) → i < length words → (get_or words i d).now ≡ mark
    → spelled words ≡ spelled (take i words) ++ mark ∷ spelled (drop (i + 1) words)
mark-here mark words i d below is =
    sym (ap spelled (ap (λ ws. take i words ++ ws) (sym (drop_more words i d below)) ∙ take-append-drop i words))
    ∙ map-append (λ w. w.now) (take i words) (get_or words i d ∷ drop (i + 1) words)
    ∙ ap (λ m. spelled (take i words) ++ m ∷ spelled (drop (i + 1) words)) is

-- The words so far are those of the text before the rest.
abbrev pub WordsSoFar : List ℕ → List ℕ → List Word → Type 0
WordsSoFar text rest words = (ws : List Word) → AreWords rest ws → AreWords text (words ++ ws)

pub words-begin : (text rest : List ℕ) (words : List Word) → rest ≡ text → words ≡ [] → WordsSoFar text rest words
words-begin text rest words is empty ws h = subst (λ w. AreWords text (w ++ ws)) (sym empty) (subst (λ t. AreWords t ws) is h)

first : (s t : SplitWhitespace) (x : Bor (List ℕ)) (step : split_whitespace_steps s (Some x) t) → IsFirstWord (split_whitespace_rest s) step.0 x.now (split_whitespace_rest t)
first s t x step = record { split = step.1; some = step.2; white = step.3; dark = step.4; ends = step.5 }

pub words-next : (text : List ℕ) (s t : SplitWhitespace) (x : Bor (List ℕ)) (words next : List (Bor (List ℕ)))
    → split_whitespace_steps s (Some x) t → (BeginsComment x.now → ⊥) → next ≡ words ++ x ∷ []
    → WordsSoFar text (split_whitespace_rest s) (spelled words) → WordsSoFar text (split_whitespace_rest t) (spelled next)
words-next text s t x words next step plain is so_far ws h =
    subst (λ l. AreWords text l) (sym (ap (λ l. l ++ ws) (ap spelled is ∙ map_push (λ w. w.now) words x) ∙ append_assoc (spelled words) (x.now ∷ []) ws))
    (so_far (x.now ∷ ws) (more (split_whitespace_rest s) step.0 x.now (split_whitespace_rest t) ws (first s t x step) plain h))

pub words-comment : (text : List ℕ) (s t : SplitWhitespace) (x : Bor (List ℕ)) (words : List (Bor (List ℕ)))
    → split_whitespace_steps s (Some x) t → BeginsComment x.now → WordsSoFar text (split_whitespace_rest s) (spelled words) → AreWords text (spelled words)
words-comment text s t x words step begins so_far =
    subst (λ l. AreWords text l) (append-nil (spelled words)) (so_far [] (comment (split_whitespace_rest s) step.0 x.now (split_whitespace_rest t) (first s t x step) begins))

pub words-end : (text rest : List ℕ) (words : List Word) → NoCharPasses is_not_whitespace rest → WordsSoFar text rest words → AreWords text words
words-end text rest words white so_far = subst (λ l. AreWords text l) (append-nil words) (so_far [] (none rest white))
