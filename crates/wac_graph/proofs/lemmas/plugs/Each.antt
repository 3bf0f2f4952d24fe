-- What packages list, in a graph with the same types and packages.
use Rattle.std.proofs.Common.{◌≡◌, ◌==◌, ℕ, suc, true, false, List, [], ◌∷◌, length, slice_get, refl, ap, ◌∙◌, sym, Some, Err, arith}
use Rattle.std.proofs.lemmas.Bool.{false≢true}
use Rattle.std.specs.Option.{option_map}
use Rattle.wac_types_shapes.specs.primitives.Name.{Name, option_case}
use Rattle.wac_types_shapes.specs.shapes.Named.{names_of}
use Rattle.wac_types_shapes.specs.declared.shapes.component.ItemKind.{ItemKind}
use Rattle.wac_types_shapes.specs.declared.shapes.component.World.{World}
use Rattle.wac_types_shapes.specs.declared.shapes.component.WorldId.{WorldId}
use Rattle.wac_types_collection.specs.collection.Collection.{Collection, item_at, world_imports, world_exports}
use Rattle.wac_types_collection.specs.collection.Package.{PackageParts}
use Rattle.wac_edges.specs.declared.node.NodeId.{NodeId}
use Rattle.wac_graph_model.specs.declared.nodes.packages.PackageId.{PackageId}
use Rattle.wac_graph_model.specs.nodes.Graph.{Graph, package_at, package_in}
use Rattle.wac_graph.specs.declared.plugs.errors.PlugError.TheVariants.{NoPlugHappened}
use Rattle.wac_graph.specs.declared.plugs.precedence.PlugPairs.{PlugPairs}
use Rattle.wac_graph.specs.private.plugs.Ready.{plugs_at}
use Rattle.wac_graph.specs.plugs.Matching.{PlugMatches, imports_of_package, exports_of_package}
use Rattle.wac_graph.specs.plugs.Plugging.{Answer, InOrder, PassesOn, Ends, Keeps}
use Rattle.wac_graph.proofs.lemmas.plugs.Order.{name-at}

-- what the worlds of packages list
pub imports-of : (g : Graph) (id : PackageId) (p : PackageParts) → package_at g id ≡ Some p → imports_of_package g id ≡ world_imports g.types p.world
imports-of g id p h = rw h refl

pub exports-of : (g : Graph) (id : PackageId) (p : PackageParts) → package_at g id ≡ Some p → exports_of_package g id ≡ world_exports g.types p.world
exports-of g id p h = rw h refl

pub world-imports : (c : Collection) (w : WorldId) (x : World) → item_at c.worlds w.0 ≡ Some x → world_imports c w ≡ x.imports
world-imports c w x h = rw h refl

pub world-exports : (c : Collection) (w : WorldId) (x : World) → item_at c.worlds w.0 ≡ Some x → world_exports c w ≡ x.exports
world-exports c w x h = rw h refl

-- what the world of a package imports, and what it exports, as it is read
pub listed-imports : (g : Graph) (id : PackageId) (p : PackageParts) (w : WorldId) (t : Collection) (x : World) → package_at g id ≡ Some p → w ≡ p.world → t ≡ g.types → item_at t.worlds w.0 ≡ Some x → imports_of_package g id ≡ x.imports
listed-imports g id p w t x at is same there = imports-of g id p at ∙ ap (world_imports g.types) (sym is) ∙ ap (λ c. world_imports c w) (sym same) ∙ world-imports t w x there

pub listed-exports : (g : Graph) (id : PackageId) (p : PackageParts) (w : WorldId) (t : Collection) (x : World) → package_at g id ≡ Some p → w ≡ p.world → t ≡ g.types → item_at t.worlds w.0 ≡ Some x → exports_of_package g id ≡ x.exports
listed-exports g id p w t x at is same there = exports-of g id p at ∙ ap (world_exports g.types) (sym is) ∙ ap (λ c. world_exports c w) (sym same) ∙ world-exports t w x there

-- the name at a position of what a world exports, in a graph whose types are the same
pub export-named : (old now : Collection) (w : WorldId) (x : World) (i : ℕ) (name : Name) → now ≡ old → item_at now.worlds w.0 ≡ Some x → option_map (λ e. e.0) (slice_get x.exports i) ≡ Some name → slice_get (names_of (world_exports old w)) i ≡ Some name
export-named old now w x i name same there h =
    let listed : world_exports old w ≡ x.exports = ap (λ c. world_exports c w) (sym same) ∙ world-exports now w x there in
    ap (λ es. slice_get (names_of es) i) listed ∙ name-at x.exports i name h

-- the names of what a package's world exports, in a graph with the same types
pub listed-names : (g mid : Graph) (id : PackageId) (p : PackageParts) (w : WorldId) → package_at g id ≡ Some p → w ≡ p.world → mid.types ≡ g.types → names_of (world_exports mid.types w) ≡ names_of (exports_of_package g id)
listed-names g mid id p w at is same =
    ap (λ c. names_of (world_exports c w)) same ∙ ap (λ x. names_of (world_exports g.types x)) is ∙ ap (λ (es : List (Name × ItemKind)). names_of es) (sym (exports-of g id p at))

-- the end, where something is plugged in
pub ends-some : (node : NodeId) (exports : List Name) (g new : Graph) (ps : List PlugMatches) (r : Answer) → (ps ≡ [] → ⊥) → InOrder (PassesOn node) g exports r new → Ends node exports g ps r new
ends-some node exports g new [] r some w = absurd (some refl)
ends-some node exports g new (p ∷ ps) r some w = w

-- and where nothing is
not-zero : (n : ℕ) → (suc n == 0) ≡ false
not-zero n = grind arith

pub ends-none : (node : NodeId) (exports : List Name) (g old : Graph) (socket : PackageId) (ws : List PlugPairs) → (length ws == 0) ≡ true → Ends node exports g (plugs_at old socket ws) (Err NoPlugHappened) g
ends-none node exports g old socket [] h = (refl, refl)
ends-none node exports g old socket (w ∷ ws) h = absurd (false≢true (sym (not-zero (length ws)) ∙ h))

pub plugs-some : (old : Graph) (socket : PackageId) (ws : List PlugPairs) → (length ws == 0) ≡ false → plugs_at old socket ws ≡ [] → ⊥
plugs-some old socket [] h is = false≢true (sym h)
plugs-some old socket (w ∷ ws) h is = cc

-- what a package imports, where the types and the packages are as they were
pub imports-kept : (old new : Graph) (id : PackageId) → Keeps old new → imports_of_package new id ≡ imports_of_package old id
imports-kept old new id kept = λ i. option_case (package_in (slice_get (kept.slots i) id.slot) id) [] (λ p. world_imports (kept.types i) p.world)

-- and what it exports
pub exports-kept : (old new : Graph) (id : PackageId) → Keeps old new → exports_of_package new id ≡ exports_of_package old id
exports-kept old new id kept = λ i. option_case (package_in (slice_get (kept.slots i) id.slot) id) [] (λ p. world_exports (kept.types i) p.world)
