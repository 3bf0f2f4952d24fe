-- Each package is written, or imported, once.
use Rattle.std.specs.Prelude.{ℕ, ◌≡◌, List, Some, slice_get}
use Rattle.wac_edges.specs.declared.node.NodeId.{NodeId}
use Rattle.wac_graph_model.specs.declared.nodes.packages.PackageId.{PackageId}
use Rattle.wac_graph_model.specs.nodes.Graph.{Graph}
use Rattle.wac_graph_model.specs.meaning.Means.{used_packages}

-- The package has exactly one place among the packages of instantiations, in order of first use.
abbrev pub IsUsedOnce : Graph → List NodeId → PackageId → Type 0
IsUsedOnce g order id = (k : ℕ) × (slice_get (used_packages g order) k ≡ Some id) × ((j : ℕ) → slice_get (used_packages g order) j ≡ Some id → j ≡ k)
