-- Plugs that can be plugged in. Only private functions use these definitions.
use Rattle.std.specs.Prelude.{◌≡◌, ◌<◌, ◌==◌, ℕ, List, [], ◌∷◌, Some, IsSome, Vec, if◌then◌else◌, length, map, slice_get}
use Rattle.std.specs.Global.{Global}
use Rattle.wac_types_shapes.specs.primitives.Name.{Name}
use Rattle.wac_types_shapes.specs.shapes.Named.{NoNameTwice}
use Rattle.wac_types_shapes.specs.declared.shapes.component.ItemKind.{ItemKind}
use Rattle.wac_types_collection.specs.collection.Collection.{Collection}
use Rattle.wac_graph_model.specs.declared.nodes.packages.PackageId.{PackageId}
use Rattle.wac_graph_model.specs.nodes.Graph.{Graph, package_at}
use Rattle.wac_graph.specs.declared.plugs.matching.Pair.{Pair}
use Rattle.wac_graph.specs.declared.plugs.precedence.PlugPairs.{PlugPairs}
use Rattle.wac_graph.specs.plugs.Matching.{Match, PlugMatches, exports_of_package, imports_of_package}
use Rattle.wac_graph.specs.private.plugs.Fitting.{Fits}
use Rattle.wac_graph.specs.private.plugs.Pairs.{matches_at, AreWithin}

-- The matches at pairs of positions in the worlds of two packages.
abbrev pub matches_of : Graph → PackageId → PackageId → List Pair → List Match
matches_of g socket plug ps = matches_at (exports_of_package g plug) (imports_of_package g socket) ps

-- A plug with its matches.
abbrev pub plug_at : Graph → PackageId → PlugPairs → PlugMatches
plug_at g socket w = record { plug = w.plug; matches = matches_of g socket w.plug w.pairs.items }

-- Plugs with their matches, in order.
abbrev pub plugs_at : Graph → PackageId → List PlugPairs → List PlugMatches
plugs_at g socket ws = map (plug_at g socket) ws

-- The plug with these pairs, if there is one.
abbrev pub kept : PackageId → Vec Pair Global → List PlugPairs
kept plug pairs = if length pairs.items == 0 then [] else record { plug = plug; pairs = pairs } ∷ []

-- Each match fits the exports and the imports.
abbrev pub FitAll : Collection → List (Name × ItemKind) → List (Name × ItemKind) → List Match → Type 0
FitAll types exports imports ms = (i : ℕ) (m : Match) → slice_get ms i ≡ Some m → Fits types exports imports m

-- The plug is a package, and its pairs are matches that fit.
pub record IsReady (g : Graph) (socket : PackageId) (w : PlugPairs) : Type 0 where
  pub there : IsSome (package_at g w.plug)
  pub named : NoNameTwice (exports_of_package g w.plug)
  pub within : AreWithin (exports_of_package g w.plug) (imports_of_package g socket) w.pairs.items
  pub fit : FitAll g.types (exports_of_package g w.plug) (imports_of_package g socket) (matches_of g socket w.plug w.pairs.items)

-- All plugs are so.
abbrev pub AreReady : Graph → PackageId → List PlugPairs → Type 0
AreReady g socket ws = (i : ℕ) (w : PlugPairs) → slice_get ws i ≡ Some w → IsReady g socket w

-- The first plugs of a list export no name twice.
abbrev pub AreNamed : Graph → List PackageId → ℕ → Type 0
AreNamed g plugs count = (i : ℕ) (id : PackageId) → i < count → slice_get plugs i ≡ Some id → NoNameTwice (exports_of_package g id)
