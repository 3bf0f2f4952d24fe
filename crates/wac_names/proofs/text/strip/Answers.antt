use Rattle.std.proofs.Common.{◌≡◌, ℕ, ◌++◌, List, length, drop, true, false, refl, ◌∙◌, Option, None, Some, MatchOption, Bor}
use Rattle.std.specs.Str.Pattern.{FindsTextPrefix, StripsPrefix}
use Rattle.std.proofs.lemmas.Bool.{false_from_ne_true}
use Rattle.wac_names.specs.Text.{begins, behind}
use Rattle.wac_names.proofs.TextFacts.{begins-whole, begins-there}
use Rattle.wac_names.proofs.text.strip.Goals as goal

strip-by_match : (front text : List ℕ) (r : Option (Bor (List ℕ)))
    → MatchOption r (FindsTextPrefix front text None) (λ x. StripsPrefix (FindsTextPrefix front) text x.now)
    → MatchOption r (begins front text ≡ false) (λ rest. (begins front text ≡ true) × (rest.now ≡ behind front text))
strip-by_match front text None h = false_from_ne_true (begins front text) (λ e. h (behind front text) (begins-whole front text e))
strip-by_match front text (Some x) h =
    let whole : text ≡ front ++ drop h.0 text = h.1.1 in
    let long : h.0 ≡ length front = h.1.0 in (
      rw whole (begins-there front (drop h.0 text)),
      h.2 ∙ rw long refl,
    )

pub returns : goal.returns
returns c = strip-by_match c.args.start.now c.args.text.now c.strip_prefix.result c.strip_prefix.ensures.cases
