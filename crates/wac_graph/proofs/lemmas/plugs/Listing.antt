-- The matches of a plug's exports, one export after another.
use Rattle.std.proofs.Common.{◌≡◌, ℕ, suc, ◌+◌, ◌≤◌, List, [], ◌∷◌, ◌++◌, length, drop, slice_get, refl, ap, ◌∙◌, sym, subst, Option, Some, None, inl, inr, append_assoc, arith}
use Rattle.std.specs.Prelude.{MatchOption}
use Rattle.std.proofs.lemmas.List.{append-nil, drop_all}
use Rattle.wac_types_shapes.specs.primitives.Name.{Name}
use Rattle.wac_types_shapes.proofs.lemmas.shapes.Loops.{drop_at}
use Rattle.wac_types_shapes.specs.declared.shapes.component.ItemKind.{ItemKind}
use Rattle.wac_types_shapes.specs.declared.shapes.component.World.{World}
use Rattle.wac_types_shapes.specs.declared.shapes.component.WorldId.{WorldId}
use Rattle.wac_types_collection.specs.collection.Collection.{Collection, item_at, world_imports, world_exports}
use Rattle.wac_graph.specs.declared.plugs.matching.Pair.{Pair}
use Rattle.wac_graph.specs.plugs.Matching.{Match, IsMatch, HasNoMatch, AreMatches}
use Rattle.wac_graph.specs.private.plugs.Pairs.{name_at, match_at, matches_at}
use Rattle.wac_graph.proofs.lemmas.plugs.Each.{world-imports, world-exports}
use Rattle.wac_graph.proofs.lemmas.plugs.Pairs.{name-there, named-more}

module _ (types : Collection) (imports exports : List (Name × ItemKind)) where
  -- these are the matches of the exports before a position
  abbrev pub AreSoFar : ℕ → List Match → Type 0
  AreSoFar i items = (ms : List Match) → AreMatches types imports (drop i exports) ms → AreMatches types imports exports (items ++ ms)

  module _ (i : ℕ) (e : Name × ItemKind) (at : slice_get exports i ≡ Some e) (o : Option ℕ) (found : MatchOption o (HasNoMatch types imports e) (λ j. IsMatch types imports e (record { export = e.0; import = name_at imports j }))) (pairs : List Pair) (so_far : AreSoFar i (matches_at exports imports pairs)) where
    place : i + 1 ≡ suc i
    place = omega arith

    pub match-more : (j : ℕ) (p : Pair) (new : List Pair) → o ≡ Some j → p ≡ record { export = i; import = j } → new ≡ pairs ++ p ∷ [] → AreSoFar (i + 1) (matches_at exports imports new)
    match-more j p new is pair pushed ms h =
        let m : Match = match_at exports imports p in
        let named : IsMatch types imports e (record { export = e.0; import = name_at imports j }) = subst (λ o. MatchOption o (HasNoMatch types imports e) (λ j. IsMatch types imports e (record { export = e.0; import = name_at imports j }))) is found in
        let there : IsMatch types imports e (match_at exports imports (record { export = i; import = j })) = subst (λ n. IsMatch types imports e (record { export = n; import = name_at imports j })) (sym (name-there exports i e at)) named in
        let one : IsMatch types imports e m = subst (λ (q : Pair). IsMatch types imports e (match_at exports imports q)) (sym pair) there in
        let rest : AreMatches types imports (drop (suc i) exports) ms = subst (λ k. AreMatches types imports (drop k exports) ms) place h in
        let all : AreMatches types imports exports (matches_at exports imports pairs ++ (m ∷ ms)) = so_far (m ∷ ms) (subst (λ l. AreMatches types imports l (m ∷ ms)) (sym (drop_at exports i e at)) (inr (m, ms, refl, one, rest))) in
        let same : matches_at exports imports new ++ ms ≡ matches_at exports imports pairs ++ (m ∷ ms) = ap (λ l. l ++ ms) (named-more exports imports pairs new p pushed) ∙ append_assoc (matches_at exports imports pairs) (m ∷ []) ms in
        subst (AreMatches types imports exports) (sym same) all

    pub match-none : o ≡ None → AreSoFar (i + 1) (matches_at exports imports pairs)
    match-none is ms h =
        let none : HasNoMatch types imports e = subst (λ o. MatchOption o (HasNoMatch types imports e) (λ j. IsMatch types imports e (record { export = e.0; import = name_at imports j }))) is found in
        let rest : AreMatches types imports (drop (suc i) exports) ms = subst (λ k. AreMatches types imports (drop k exports) ms) place h in
        so_far ms (subst (λ l. AreMatches types imports l ms) (sym (drop_at exports i e at)) (inl (none, rest)))

pub all-matched : (types : Collection) (socket plug : WorldId) (s p : World) (i : ℕ) (items : List Match) → item_at types.worlds socket.0 ≡ Some s → item_at types.worlds plug.0 ≡ Some p → length p.exports ≤ i → AreSoFar types s.imports p.exports i items
    → AreMatches types (world_imports types socket) (world_exports types plug) items
all-matched types socket plug s p i items socket_at plug_at past so_far =
    let all : AreMatches types s.imports p.exports (items ++ []) = so_far [] (subst (λ l. AreMatches types s.imports l []) (sym (drop_all i p.exports past)) refl) in
    let whole : AreMatches types s.imports p.exports items = subst (AreMatches types s.imports p.exports) (append-nil items) all in
    subst (λ l. AreMatches types l (world_exports types plug) items) (sym (world-imports types socket s socket_at))
    (subst (λ l. AreMatches types s.imports l items) (sym (world-exports types plug p plug_at)) whole)
