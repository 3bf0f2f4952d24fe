use Rattle.std.proofs.Common.{◌≡◌, ◌≢◌, ℕ, ◌++◌, ◌∷◌, [], List, true, false, sym, Option, None, Some, MatchOption, Bor}
use Rattle.std.proofs.lemmas.Bool.{false_from_ne_true}
use Rattle.std.proofs.lemmas.Str.Pattern.{strip_suffix_char}
use Rattle.wac_names.specs.Text.{ends, front}
use Rattle.wac_names.proofs.TextFacts.{ends-whole, ends-there, front-there}
use Rattle.wac_names.proofs.text.strip_end.Goals as goal

strip_end-by_match : (c : ℕ) (text : List ℕ) (r : Option (Bor (List ℕ)))
    → MatchOption r ((a : List ℕ) → text ≢ a ++ (c ∷ [])) (λ x. text ≡ x.now ++ (c ∷ []))
    → MatchOption r (ends c text ≡ false) (λ rest. (ends c text ≡ true) × (rest.now ≡ front text))
strip_end-by_match c text None h = false_from_ne_true (ends c text) (λ e. h (front text) (ends-whole c text e))
strip_end-by_match c text (Some x) h = rw h (ends-there c x.now, sym (front-there c x.now))

pub returns : goal.returns
returns c = strip_end-by_match c.args.end c.args.text.now c.strip_suffix.result (strip_suffix_char c.args.end c.args.text.now c.strip_suffix.result c.strip_suffix.ensures.cases c.requires)
