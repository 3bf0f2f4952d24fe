-- One plug after another: what its matches add to those that win, and to those that do not.
use Rattle.std.proofs.Common.{◌≡◌, ◌≤◌, ◌+◌, ℕ, Bool, false, List, [], ◌++◌, length, get_or, replicate, slice_get, Vec, Global, refl, ap, ◌∙◌, sym, subst, Some, IsSome, inl, inr, arith}
use Rattle.std.proofs.lemmas.Bool.{cases_lt}
use Rattle.std.proofs.lemmas.List.{map-append, length-replicate, get_or-replicate}
use Rattle.wac_types_shapes.specs.primitives.Name.{Name}
use Rattle.wac_types_shapes.specs.shapes.Named.{NoNameTwice}
use Rattle.wac_types_shapes.specs.declared.shapes.component.ItemKind.{ItemKind}
use Rattle.wac_types_shapes.specs.declared.shapes.component.World.{World}
use Rattle.wac_types_shapes.specs.declared.shapes.component.WorldId.{WorldId}
use Rattle.wac_types_collection.specs.collection.Collection.{Collection, item_at, world_imports, world_exports}
use Rattle.wac_graph_model.specs.declared.nodes.packages.PackageId.{PackageId}
use Rattle.wac_graph_model.specs.nodes.Graph.{Graph, package_at}
use Rattle.wac_graph.specs.declared.plugs.matching.Pair.{Pair}
use Rattle.wac_graph.specs.declared.plugs.precedence.PlugPairs.{PlugPairs}
use Rattle.wac_graph.specs.plugs.Matching.{Match, AreMatches, AreMatchesOf, imports_of_package, exports_of_package}
use Rattle.wac_graph.specs.plugs.Precedence.{PlugMatch, taken_after, winning, with_any, each_of}
use Rattle.wac_graph.specs.private.plugs.Pairs.{matches_at, AreWithin}
use Rattle.wac_graph.specs.private.plugs.Ready.{matches_of, plug_at, plugs_at, kept, FitAll, IsReady, AreReady, AreNamed}
use Rattle.wac_graph.specs.private.plugs.Taking.{won, lost, marked, AreTaken}
use Rattle.wac_graph.proofs.lemmas.plugs.Each.{world-imports, world-exports}
use Rattle.wac_graph.proofs.lemmas.plugs.Finding.{AreSoFar, one-more-plug, kept-at, ready-more}
use Rattle.wac_graph.proofs.lemmas.plugs.Fitting.{all-fit}
use Rattle.wac_graph.proofs.lemmas.plugs.Taking.{divided, won-within, lost-within}
use Rattle.wac_graph.proofs.lemmas.plugs.Wirable.{wirable, wirable-winning}

-- no import is taken at first
pub none-taken : (imports : List (Name × ItemKind)) (taken : List Bool) → taken ≡ replicate (length imports) false → AreTaken imports [] taken
none-taken imports taken is = record {
  long = ap length is ∙ length-replicate (length imports) false;
  same = λ i at. ap (λ l. get_or l i false) is ∙ get_or-replicate (length imports) i false false at;
}

-- and no plug is wired
pub none-ready : (g : Graph) (socket : PackageId) (ws : List PlugPairs) → ws ≡ [] → AreReady g socket ws
none-ready g socket ws is = subst (AreReady g socket) (sym is) none where
  none : AreReady g socket []
  none i w at = cc

-- what was found in the worlds of a plug and of the socket
module _ (g : Graph) (t : Collection) (w v : WorldId) (x y : World) (same : t ≡ g.types) (at_w : item_at t.worlds w.0 ≡ Some x) (at_v : item_at t.worlds v.0 ≡ Some y) (found ps : List Pair) (is : ps ≡ found) where
  pub found-matches : AreMatches t (world_imports t w) (world_exports t v) (matches_at (world_exports t v) (world_imports t w) found) → AreMatches g.types x.imports y.exports (matches_at y.exports x.imports ps)
  found-matches h =
      subst (λ c. AreMatches c x.imports y.exports (matches_at y.exports x.imports ps)) same
      (subst (λ l. AreMatches t l y.exports (matches_at y.exports l ps)) (world-imports t w x at_w)
      (subst (λ l. AreMatches t (world_imports t w) l (matches_at l (world_imports t w) ps)) (world-exports t v y at_v)
      (subst (λ l. AreMatches t (world_imports t w) (world_exports t v) (matches_at (world_exports t v) (world_imports t w) l)) (sym is) h)))

  pub found-within : AreWithin (world_exports t v) (world_imports t w) found → AreWithin y.exports x.imports ps
  found-within h = subst (λ l. AreWithin y.exports l ps) (world-imports t w x at_w) (subst (λ l. AreWithin l (world_imports t w) ps) (world-exports t v y at_v) (subst (AreWithin (world_exports t v) (world_imports t w)) (sym is) h))

-- a plug with its matches by positions
module _ (g : Graph) (socket plug : PackageId) (exports imports : List (Name × ItemKind)) (exports_is : exports_of_package g plug ≡ exports) (imports_is : imports_of_package g socket ≡ imports) (once : NoNameTwice imports) (named : NoNameTwice exports)
    (ps : List Pair) (within : AreWithin exports imports ps) (matches : AreMatches g.types imports exports (matches_at exports imports ps)) (names : List Name) (taken : List Bool) (agree : AreTaken imports names taken) where
  abbrev own : List Match
  own = matches_at exports imports ps

  are-own : AreMatchesOf g socket plug own
  are-own = subst (λ l. AreMatches g.types l (exports_of_package g plug) own) (sym imports_is) (subst (λ l. AreMatches g.types imports l own) (sym exports_is) matches)

  same-matches : (l : List Pair) → matches_of g socket plug l ≡ matches_at exports imports l
  same-matches l = ap (λ es. matches_at es (imports_of_package g socket) l) exports_is ∙ ap (λ is. matches_at exports is l) imports_is

  -- the imports that are taken after them
  pub now-taken : (new : List Bool) → new ≡ marked taken ps → AreTaken imports (taken_after names own) new
  now-taken new is = subst (AreTaken imports (taken_after names own)) (sym is) (divided exports imports once names taken ps agree within).2

  -- those that do not win are within the lists
  pub lost-there : (l : List Pair) → l ≡ lost taken ps → AreWithin exports imports l
  lost-there l is = subst (AreWithin exports imports) (sym is) (lost-within exports imports taken ps within)

  module _ (v : Vec Pair Global) (won_is : v.items ≡ won taken ps) where
    winners : matches_of g socket plug v.items ≡ winning names own
    winners = same-matches v.items ∙ ap (matches_at exports imports) won_is ∙ (divided exports imports once names taken ps agree within).0

    fits : FitAll g.types exports imports (winning names own)
    fits = all-fit g.types exports imports (winning names own) (wirable-winning g.types imports exports names own (wirable g.types imports exports once named own matches))

    ready : IsSome (package_at g plug) → IsReady g socket (record { plug = plug; pairs = v })
    ready there = record {
      there = there;
      named = subst NoNameTwice (sym exports_is) named;
      within = subst (λ l. AreWithin (exports_of_package g plug) l v.items) (sym imports_is)
          (subst (λ l. AreWithin l imports v.items) (sym exports_is) (subst (AreWithin exports imports) (sym won_is) (won-within exports imports taken ps within)));
      fit = subst (λ ms. FitAll g.types (exports_of_package g plug) (imports_of_package g socket) ms) (sym winners)
          (subst (λ l. FitAll g.types (exports_of_package g plug) l (winning names own)) (sym imports_is) (subst (λ l. FitAll g.types l imports (winning names own)) (sym exports_is) fits));
    }

    -- all plugs so far are ready
    pub now-ready : (ws new : List PlugPairs) → IsSome (package_at g plug) → AreReady g socket ws → new ≡ ws ++ kept plug v → AreReady g socket new
    now-ready ws new there are is = ready-more g socket plug v ws new are (ready there) is

    -- and what they wire and pass over
    pub now-so-far : (plugs : List PackageId) (i : ℕ) (ws new : List PlugPairs) (passed others : List PlugMatch) (l : List Pair) → slice_get plugs i ≡ Some plug → new ≡ ws ++ kept plug v → l ≡ lost taken ps
        → others ≡ passed ++ each_of plug (matches_at exports imports l) → AreSoFar g socket plugs i names (plugs_at g socket ws) passed → AreSoFar g socket plugs (i + 1) (taken_after names own) (plugs_at g socket new) others
    now-so-far plugs i ws new passed others l at new_is lost_is others_is before =
        one-more-plug g socket plugs i plug own names (plugs_at g socket ws) (plugs_at g socket new) passed others at are-own
        (ap (plugs_at g socket) new_is ∙ map-append (plug_at g socket) ws (kept plug v) ∙ ap (λ k. plugs_at g socket ws ++ k) (kept-at g socket plug v ∙ ap (λ ms. with_any plug ms []) winners))
        (others_is ∙ ap (λ k. passed ++ each_of plug k) (ap (matches_at exports imports) lost_is ∙ (divided exports imports once names taken ps agree within).1))
        before

-- the plugs so far export no name twice, and one more
pub now-named : (g : Graph) (plugs : List PackageId) (i : ℕ) (plug : PackageId) (exports : List (Name × ItemKind)) → slice_get plugs i ≡ Some plug → exports_of_package g plug ≡ exports → NoNameTwice exports → AreNamed g plugs i
    → AreNamed g plugs (i + 1)
now-named g plugs i plug exports at is named before k id below here = elim (cases_lt k i) [
  | inl low ↦ before k id low here
  | inr high ↦
      let e : i ≡ k = omega (arith, below, high) in
      let same : plug ≡ id = some-same plug id (sym at ∙ ap (slice_get plugs) e ∙ here) in
      subst (λ p. NoNameTwice (exports_of_package g p)) same (subst NoNameTwice (sym is) named)
]
  where
    some-same : (a b : PackageId) → Some a ≡ Some b → a ≡ b
    some-same a b h = cc

pub all-named : (g : Graph) (plugs : List PackageId) (i : ℕ) → length plugs ≤ i → AreNamed g plugs i → AreNamed g plugs (length plugs)
all-named g plugs i past before k id below at = before k id (omega (arith, past, below)) at
