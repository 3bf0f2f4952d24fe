use Rattle.std.proofs.Common.{◌≡◌, ◌≢◌, ℕ, ◌<◌, ◌++◌, ◌∷◌, List, length, get_or, true, false, Option, None, Some, MatchOption, Bor, sym}
use Rattle.std.proofs.lemmas.Str.Pattern.{split_parts}
use Rattle.wac_names.specs.Text.{has, before, after}
use Rattle.wac_names.proofs.TextFacts.{has-nowhere, has-there, before-there, after-there}
use Rattle.wac_names.proofs.text.cut.Goals as goal

cut-by_parts : (c : ℕ) (text : List ℕ) (r : Option (Bor (List ℕ) × Bor (List ℕ)))
    → MatchOption r ((i : ℕ) → i < length text → get_or text i 0 ≢ c) (λ x. (text ≡ x.0.now ++ (c ∷ x.1.now)) × ((i : ℕ) → i < length x.0.now → get_or x.0.now i 0 ≢ c))
    → MatchOption r (has c text ≡ false) (λ p. (has c text ≡ true) × (p.0.now ≡ before c text) × (p.1.now ≡ after c text))
cut-by_parts c text None h = has-nowhere c text h
cut-by_parts c text (Some x) h =
    let none = has-nowhere c x.0.now h.1 in
    rw h.0 (has-there c x.0.now x.1.now, sym (before-there c x.0.now x.1.now none), sym (after-there c x.0.now x.1.now none))

pub returns : goal.returns
returns c = cut-by_parts c.args.at c.args.text.now c.split_once.result (split_parts c.args.at c.args.text.now c.split_once.result c.split_once.ensures.cases c.requires)
