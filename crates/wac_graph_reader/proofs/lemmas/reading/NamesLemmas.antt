-- Names that are put together one list after another.
use Rattle.std.proofs.Common.{◌≡◌, ℕ, List, [], ◌++◌, ap, ◌∙◌}
use Rattle.std.specs.Borrow.{Bor}
use Rattle.std.proofs.lemmas.List.{map-append}
use Rattle.wac_types_shapes.specs.primitives.Name.{Name}
use Rattle.wac_binary.specs.declared.sorts.Sort.{Sort}
use Rattle.wac_binary.specs.Views.{names_of}

abbrev name_of : Sort × ℕ × Bor (List ℕ) → Sort × ℕ × Name
name_of e = (e.0, e.1, e.2.now)

pub joined : (xs ys : List (Sort × ℕ × Bor (List ℕ))) → names_of (xs ++ ys) ≡ names_of xs ++ names_of ys
joined xs ys = map-append name_of xs ys

pub six : (m n o p q r s : List (Sort × ℕ × Name)) (a b c d e f : List (Sort × ℕ × Name)) → m ≡ [] → n ≡ m ++ a → o ≡ n ++ b → p ≡ o ++ c → q ≡ p ++ d → r ≡ q ++ e → s ≡ r ++ f → s ≡ ((((a ++ b) ++ c) ++ d) ++ e) ++ f
six m n o p q r s a b c d e f none one two three four five all =
    all ∙ ap (λ xs. xs ++ f) (five ∙ ap (λ xs. xs ++ e) (four ∙ ap (λ xs. xs ++ d) (three ∙ ap (λ xs. xs ++ c) (two ∙ ap (λ xs. xs ++ b) (one ∙ ap (λ xs. xs ++ a) none)))))
