-- The matches that win: no two have one import, and they can be wired if all matches can.
use Rattle.std.proofs.Common.{◌≡◌, Bool, false, cond, List, [], ◌∷◌, ◌++◌, refl, ap, ◌∙◌, sym, subst, inl, inr}
use Rattle.std.specs.List.{AllByRecursion}
use Rattle.std.proofs.lemmas.Bool.{cases_Bool}
use Rattle.wac_types_shapes.specs.primitives.Name.{Name}
use Rattle.wac_graph_model.specs.declared.nodes.packages.PackageId.{PackageId}
use Rattle.wac_graph.specs.plugs.Matching.{Match, PlugMatches}
use Rattle.wac_graph.specs.plugs.Precedence.{is_taken, taken_after, winning, with_any}

-- the imports of matches are not among those taken, and none is that of two
abbrev pub AreFresh : List Name → List Match → Type 0
AreFresh taken [] = Unit {0}
AreFresh taken (m ∷ ms) = (is_taken taken m.import ≡ false) × AreFresh (m.import ∷ taken) ms

-- the imports taken before, and those of matches
abbrev pub given_then : List Name → List Match → List Name
given_then given [] = given
given_then given (m ∷ ms) = given_then (m.import ∷ given) ms

abbrev winning-by : Bool → List Name → Match → List Match → List Match
winning-by b taken m ms = cond b (winning taken ms) (m ∷ winning (m.import ∷ taken) ms)

pub are-fresh : (taken : List Name) (ms : List Match) → AreFresh taken (winning taken ms)
are-fresh taken [] = tt
are-fresh taken (m ∷ ms) = elim (cases_Bool (is_taken taken m.import)) [
  | inl t ↦ subst (AreFresh taken) (sym (ap (λ b. winning-by b taken m ms) t)) (are-fresh taken ms)
  | inr f ↦ subst (AreFresh taken) (sym (ap (λ b. winning-by b taken m ms) f)) (f, are-fresh (m.import ∷ taken) ms)
]

pub given-after : (taken : List Name) (ms : List Match) → given_then taken (winning taken ms) ≡ taken_after taken ms
given-after taken [] = refl
given-after taken (m ∷ ms) = elim (cases_Bool (is_taken taken m.import)) [
  | inl t ↦ ap (λ b. given_then taken (winning-by b taken m ms)) t ∙ given-after taken ms ∙ sym (ap (λ b. taken_after (cond b taken (m.import ∷ taken)) ms) t)
  | inr f ↦ ap (λ b. given_then taken (winning-by b taken m ms)) f ∙ given-after (m.import ∷ taken) ms ∙ sym (ap (λ b. taken_after (cond b taken (m.import ∷ taken)) ms) f)
]

-- what holds of all matches holds of those that win
pub all-winning : (P : Match → Type 0) (taken : List Name) (ms : List Match) → AllByRecursion P ms → AllByRecursion P (winning taken ms)
all-winning P taken [] h = tt
all-winning P taken (m ∷ ms) h = elim (cases_Bool (is_taken taken m.import)) [
  | inl t ↦ subst (AllByRecursion P) (sym (ap (λ b. winning-by b taken m ms) t)) (all-winning P taken ms h.1)
  | inr f ↦ subst (AllByRecursion P) (sym (ap (λ b. winning-by b taken m ms) f)) (h.0, all-winning P (m.import ∷ taken) ms h.1)
]

pub with_any-append : (plug : PackageId) (ms : List Match) (others : List PlugMatches) → with_any plug ms others ≡ with_any plug ms [] ++ others
with_any-append plug [] others = refl
with_any-append plug (m ∷ ms) others = refl
