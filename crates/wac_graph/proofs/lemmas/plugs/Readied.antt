-- Plugs that are ready stay so in graphs with the same types and packages.
use Rattle.std.proofs.Common.{◌≡◌, ◌≤◌, ℕ, List, [], ◌∷◌, length, slice_get, refl, ap, ◌∙◌, sym, subst, Some, IsSome, is_some, map, Ok, inr}
use Rattle.std.specs.Option.{option_map}
use Rattle.std.proofs.lemmas.List.{length-map}
use Rattle.std.proofs.lemmas.Option.{slice_get-map}
use Rattle.wac_types_shapes.specs.shapes.Named.{NoNameTwice, names_of}
use Rattle.wac_edges.specs.declared.node.NodeId.{NodeId}
use Rattle.wac_graph_model.specs.declared.nodes.packages.PackageId.{PackageId}
use Rattle.wac_graph_model.specs.nodes.Graph.{Graph, node_at, package_at}
use Rattle.wac_graph.specs.declared.plugs.matching.Pair.{Pair}
use Rattle.wac_graph.specs.declared.plugs.precedence.PlugPairs.{PlugPairs}
use Rattle.wac_graph_model.specs.nodes.Steps.{Instantiates}
use Rattle.wac_graph.specs.plugs.Matching.{Match, PlugMatches, AreMatches, AreMatchesOf, AreAllMatches, imports_of_package, exports_of_package}
use Rattle.wac_graph.specs.plugs.Plugging.{Answer, PlugsIn, PlugsAndExports, Plugs, Keeps}
use Rattle.wac_graph.specs.private.plugs.Fitting.{AllFit, IsNodeOf, node_imports}
use Rattle.wac_graph.specs.private.plugs.Pairs.{matches_at, AreWithin}
use Rattle.wac_graph.specs.private.plugs.Ready.{matches_of, plug_at, plugs_at, FitAll, IsReady, AreReady, AreNamed}
use Rattle.wac_graph.proofs.lemmas.plugs.Each.{imports-kept, exports-kept}
use Rattle.wac_graph.proofs.lemmas.plugs.Fitting.{node-kept, node-there, node-imports, fit-node}

-- a plug of a list with its matches
pub plug-item : (g : Graph) (socket : PackageId) (ws : List PlugPairs) (i : ℕ) (w : PlugPairs) → slice_get ws i ≡ Some w → slice_get (plugs_at g socket ws) i ≡ Some (plug_at g socket w)
plug-item g socket ws i w at = slice_get-map (plug_at g socket) ws i ∙ ap (option_map (plug_at g socket)) at

-- there are as many
pub plugs-past : (g : Graph) (socket : PackageId) (ws : List PlugPairs) (i : ℕ) → length ws ≤ i → length (plugs_at g socket ws) ≤ i
plugs-past g socket ws i h = subst (λ n. n ≤ i) (sym (length-map ws (plug_at g socket))) h

module _ (old now : Graph) (socket : PackageId) (kept : Keeps old now) where
  pub package-kept : (id : PackageId) → IsSome (package_at old id) → IsSome (package_at now id)
  package-kept id h = ap (λ l. is_some (package_at (record now { slots = l }) id)) kept.slots ∙ h

  pub plugs-kept : (ws : List PlugPairs) → plugs_at now socket ws ≡ plugs_at old socket ws
  plugs-kept ws = λ i. map (λ (w : PlugPairs). record { plug = w.plug; matches = matches_at (exports-kept old now w.plug kept i) (imports-kept old now socket kept i) w.pairs.items }) ws

  ready-kept : (w : PlugPairs) → IsReady old socket w → IsReady now socket w
  ready-kept w ready = record {
    there = package-kept w.plug ready.there;
    named = subst NoNameTwice (sym (exports-kept old now w.plug kept)) ready.named;
    within = subst (λ l. AreWithin (exports_of_package now w.plug) l w.pairs.items) (sym (imports-kept old now socket kept)) (subst (λ l. AreWithin l (imports_of_package old socket) w.pairs.items) (sym (exports-kept old now w.plug kept)) ready.within);
    fit = subst (λ c. FitAll c (exports_of_package now w.plug) (imports_of_package now socket) (matches_of now socket w.plug w.pairs.items)) (sym kept.types)
        (subst (λ l. FitAll old.types (exports_of_package now w.plug) l (matches_at (exports_of_package now w.plug) l w.pairs.items)) (sym (imports-kept old now socket kept))
        (subst (λ l. FitAll old.types l (imports_of_package old socket) (matches_at l (imports_of_package old socket) w.pairs.items)) (sym (exports-kept old now w.plug kept)) ready.fit));
  }

  pub all-ready : (ws : List PlugPairs) → AreReady old socket ws → AreReady now socket ws
  all-ready ws ready i w at = ready-kept w (ready i w at)

  matches-kept : (plug : PackageId) (ms : List Match) → AreMatchesOf now socket plug ms → AreMatchesOf old socket plug ms
  matches-kept plug ms h = subst (λ c. AreMatches c (imports_of_package old socket) (exports_of_package old plug) ms) kept.types
      (subst (λ l. AreMatches now.types l (exports_of_package old plug) ms) (imports-kept old now socket kept)
      (subst (λ l. AreMatches now.types (imports_of_package now socket) l ms) (exports-kept old now plug kept) h))

  pub all-matches-kept : (plugs : List PackageId) (all : List PlugMatches) → AreAllMatches now socket plugs all → AreAllMatches old socket plugs all
  all-matches-kept [] all h = h
  all-matches-kept (plug ∷ plugs) all h = (h.0, h.1, h.2, matches-kept plug h.0 h.3, all-matches-kept plugs h.1 h.4)

  pub names-kept : (plugs : List PackageId) (count : ℕ) → AreNamed now plugs count → AreNamed old plugs count
  names-kept plugs count named i id below at = subst NoNameTwice (exports-kept old now id kept) (named i id below at)

  -- what is done with the socket's node is done from the graph before it
  pub plugs-from : (ws : List PlugPairs) (node : NodeId) → Instantiates old socket (Ok node) now → (r : Answer) (new : Graph) → PlugsAndExports node (names_of (exports_of_package now socket)) now (plugs_at now socket ws) r new
      → Plugs old socket (plugs_at old socket ws) r new
  plugs-from ws node made r new h =
      inr (
        node,
        now,
        made,
        subst (λ l. PlugsAndExports node (names_of l) now (plugs_at old socket ws) r new) (exports-kept old now socket kept)
            (subst (λ ps. PlugsAndExports node (names_of (exports_of_package now socket)) now ps r new) (plugs-kept ws) h),
      )

-- a plug that is ready can be plugged in
module _ (old now : Graph) (socket : PackageId) (node : NodeId) (w : PlugPairs) (kept : Keeps old now) (there : IsSome (package_at old socket)) (of : IsNodeOf old node socket) (ready : IsReady old socket w)
    (asked : NoNameTwice (imports_of_package old socket)) where
  of_now : IsNodeOf now node socket
  of_now = node-kept old now node socket kept of

  exports : exports_of_package now w.plug ≡ exports_of_package old w.plug
  exports = exports-kept old now w.plug kept

  imports : node_imports now node ≡ imports_of_package old socket
  imports = node-imports now socket node (package-kept old now socket kept socket there) of_now ∙ imports-kept old now socket kept

  same : (ps : List Pair) → matches_at (exports_of_package now w.plug) (node_imports now node) ps ≡ matches_of old socket w.plug ps
  same ps = ap (λ l. matches_at l (node_imports now node) ps) exports ∙ ap (λ l. matches_at (exports_of_package old w.plug) l ps) imports

  pub plug-there : IsSome (package_at now w.plug)
  plug-there = package-kept old now socket kept w.plug ready.there

  pub node-now : IsSome (node_at now node)
  node-now = node-there now node socket of_now

  pub asked-now : NoNameTwice (node_imports now node)
  asked-now = subst NoNameTwice (sym imports) asked

  module _ (ps : List Pair) (are : ps ≡ w.pairs.items) where
    pub within-now : AreWithin (exports_of_package now w.plug) (node_imports now node) ps
    within-now = subst (AreWithin (exports_of_package now w.plug) (node_imports now node)) (sym are)
        (subst (λ l. AreWithin (exports_of_package now w.plug) l w.pairs.items) (sym imports) (subst (λ l. AreWithin l (imports_of_package old socket) w.pairs.items) (sym exports) ready.within))

    matches-now : matches_at (exports_of_package now w.plug) (node_imports now node) ps ≡ matches_of old socket w.plug w.pairs.items
    matches-now = same ps ∙ ap (matches_of old socket w.plug) are

    pub fit-now : AllFit now w.plug node (matches_at (exports_of_package now w.plug) (node_imports now node) ps)
    fit-now = subst (AllFit now w.plug node) (sym matches-now) (fit-node old now w.plug socket node (matches_of old socket w.plug w.pairs.items) kept there of_now ready.fit)

    pub plugged-now : (r : Answer) (new : Graph) → PlugsIn node now (record { plug = w.plug; matches = matches_at (exports_of_package now w.plug) (node_imports now node) ps }) r new → PlugsIn node now (plug_at old socket w) r new
    plugged-now r new h = subst (λ ms. PlugsIn node now (record { plug = w.plug; matches = ms }) r new) matches-now h
