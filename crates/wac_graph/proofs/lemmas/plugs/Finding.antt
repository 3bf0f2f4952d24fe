-- The matches of plugs, one plug after another.
use Rattle.std.proofs.Common.{◌≡◌, ◌≤◌, ◌+◌, ◌==◌, ℕ, zero, suc, false, cond, List, [], ◌∷◌, ◌++◌, length, drop, slice_get, Vec, Global, refl, ap, ◌∙◌, sym, subst, Some, inl, inr, append_assoc, arith}
use Rattle.std.proofs.lemmas.Bool.{cases_Bool}
use Rattle.std.proofs.lemmas.List.{append-nil, drop_all}
use Rattle.wac_types_shapes.specs.primitives.Name.{Name}
use Rattle.wac_types_shapes.proofs.lemmas.shapes.Loops.{drop_at}
use Rattle.wac_graph_model.specs.declared.nodes.packages.PackageId.{PackageId}
use Rattle.wac_graph_model.specs.nodes.Graph.{Graph}
use Rattle.wac_graph.specs.declared.plugs.matching.Pair.{Pair}
use Rattle.wac_graph.specs.declared.plugs.precedence.PlugPairs.{PlugPairs}
use Rattle.wac_graph.specs.plugs.Matching.{Match, PlugMatches, AreMatchesOf, AreAllMatches}
use Rattle.wac_graph.specs.plugs.Precedence.{PlugMatch, taken_after, winning, losing, with_any, wired, each_of, passed_over}
use Rattle.wac_graph.specs.private.plugs.Ready.{matches_of, plug_at, plugs_at, kept, IsReady, AreReady}
use Rattle.wac_graph.proofs.lemmas.plugs.Winning.{with_any-append}

module _ (g : Graph) (socket : PackageId) (plugs : List PackageId) where
  -- these are what the plugs before a position wire and pass over, with the imports that are taken then
  abbrev pub AreSoFar : ℕ → List Name → List PlugMatches → List PlugMatch → Type 0
  AreSoFar i taken done passed =
      (rest : List PlugMatches) → AreAllMatches g socket (drop i plugs) rest
      → (all : List PlugMatches) × AreAllMatches g socket plugs all × (wired [] all ≡ done ++ wired taken rest) × (passed_over [] all ≡ passed ++ passed_over taken rest)

  pub none-so-far : AreSoFar 0 [] [] []
  none-so-far rest h = (rest, h, refl, refl)

  pub one-more-plug : (i : ℕ) (plug : PackageId) (own : List Match) (taken : List Name) (done more : List PlugMatches) (passed others : List PlugMatch) → slice_get plugs i ≡ Some plug → AreMatchesOf g socket plug own
      → more ≡ done ++ with_any plug (winning taken own) [] → others ≡ passed ++ each_of plug (losing taken own) → AreSoFar i taken done passed → AreSoFar (i + 1) (taken_after taken own) more others
  one-more-plug i plug own taken done more passed others at are wired_is passed_is before rest h =
      let place : i + 1 ≡ suc i = omega arith in
      let mine : PlugMatches = record { plug = plug; matches = own } in
      let r = before (mine ∷ rest) (subst (λ l. AreAllMatches g socket l (mine ∷ rest)) (sym (drop_at plugs i plug at)) (own, rest, refl, are, subst (λ k. AreAllMatches g socket (drop k plugs) rest) place h)) in (
        r.0,
        r.1,
        r.2 ∙ ap (λ l. done ++ l) (with_any-append plug (winning taken own) (wired (taken_after taken own) rest)) ∙ sym (append_assoc done (with_any plug (winning taken own) []) (wired (taken_after taken own) rest))
            ∙ ap (λ l. l ++ wired (taken_after taken own) rest) (sym wired_is),
        r.3 ∙ sym (append_assoc passed (each_of plug (losing taken own)) (passed_over (taken_after taken own) rest)) ∙ ap (λ l. l ++ passed_over (taken_after taken own) rest) (sym passed_is),
      )

  pub all-plugs : (i : ℕ) (taken : List Name) (done : List PlugMatches) (passed : List PlugMatch) → length plugs ≤ i → AreSoFar i taken done passed
      → (all : List PlugMatches) × AreAllMatches g socket plugs all × (done ≡ wired [] all) × (passed ≡ passed_over [] all)
  all-plugs i taken done passed past before =
      let r = before [] (subst (λ l. AreAllMatches g socket l []) (sym (drop_all i plugs past)) refl) in (r.0, r.1, sym (r.2 ∙ append-nil done), sym (r.3 ∙ append-nil passed))

not-zero : (n : ℕ) → (suc n == 0) ≡ false
not-zero n = grind arith

-- a plug with its pairs, if it has any
pub kept-at : (g : Graph) (socket plug : PackageId) (v : Vec Pair Global) → plugs_at g socket (kept plug v) ≡ with_any plug (matches_of g socket plug v.items) []
kept-at g socket plug v = by v.items refl where
  by : (ps : List Pair) → v.items ≡ ps → plugs_at g socket (kept plug v) ≡ with_any plug (matches_of g socket plug v.items) []
  by [] is =
      ap (λ (l : List Pair). plugs_at g socket (cond (length l == 0) [] (record { plug = plug; pairs = v } ∷ []))) is
      ∙ sym (ap (λ l. with_any plug (matches_of g socket plug l) []) is)
  by (p ∷ ps) is =
      ap (λ (l : List Pair). plugs_at g socket (cond (length l == 0) [] (record { plug = plug; pairs = v } ∷ []))) is
      ∙ ap (λ b. plugs_at g socket (cond b [] (record { plug = plug; pairs = v } ∷ []))) (not-zero (length ps))
      ∙ one is
    where
      one : v.items ≡ p ∷ ps → (plug_at g socket (record { plug = plug; pairs = v })) ∷ [] ≡ with_any plug (matches_of g socket plug v.items) []
      one is = ap (λ l. record { plug = plug; matches = matches_of g socket plug l } ∷ []) is ∙ sym (ap (λ l. with_any plug (matches_of g socket plug l) []) is)

-- all plugs are ready, and one more
ready-after : (g : Graph) (socket : PackageId) (ws : List PlugPairs) (w : PlugPairs) → AreReady g socket ws → IsReady g socket w → AreReady g socket (ws ++ w ∷ [])
ready-after g socket [] w are is zero q at = let same : w ≡ q = cc in subst (IsReady g socket) same is
ready-after g socket [] w are is (suc k) q at = cc
ready-after g socket (x ∷ ws) w are is zero q at = are 0 q at
ready-after g socket (x ∷ ws) w are is (suc k) q at = ready-after g socket ws w (λ j r h. are (suc j) r h) is k q at

pub ready-more : (g : Graph) (socket plug : PackageId) (v : Vec Pair Global) (ws new : List PlugPairs) → AreReady g socket ws → IsReady g socket (record { plug = plug; pairs = v }) → new ≡ ws ++ kept plug v → AreReady g socket new
ready-more g socket plug v ws new are is same = elim (cases_Bool (length v.items == 0)) [
  | inl t ↦ subst (AreReady g socket) (sym (same ∙ ap (λ b. ws ++ cond b [] (record { plug = plug; pairs = v } ∷ [])) t ∙ append-nil ws)) are
  | inr f ↦ subst (AreReady g socket) (sym (same ∙ ap (λ b. ws ++ cond b [] (record { plug = plug; pairs = v } ∷ [])) f)) (ready-after g socket ws (record { plug = plug; pairs = v }) are is)
]
