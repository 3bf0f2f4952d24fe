-- Matches whose export fits the import. Only private functions use these definitions.
use Rattle.std.specs.Prelude.{◌≡◌, ℕ, List, [], Some, IfSome, IsSomeAnd, slice_get}
use Rattle.wac_types_shapes.specs.primitives.Name.{Name, option_case}
use Rattle.wac_types_shapes.specs.shapes.Named.{named_at}
use Rattle.wac_types_shapes.specs.declared.shapes.component.ItemKind.{ItemKind}
use Rattle.wac_types_collection.specs.collection.Collection.{Collection}
use Rattle.wac_types_collection.specs.subtyping.Subtype.{IsSubtype}
use Rattle.wac_edges.specs.declared.node.NodeId.{NodeId}
use Rattle.wac_graph_model.specs.declared.nodes.packages.PackageId.{PackageId}
use Rattle.wac_graph_model.specs.nodes.Graph.{Graph, node_at, exports_of, imports_of}
use Rattle.wac_graph.specs.private.plugs.Positions.{HasExport, HasNamed}
use Rattle.wac_graph.specs.plugs.Matching.{Match, exports_of_package}
use Rattle.wac_graph.specs.declared.plugs.matching.Pair.{Pair}

-- The export of the match is a subtype of its import, if both exist.
abbrev pub Fits : Collection → List (Name × ItemKind) → List (Name × ItemKind) → Match → Type 0
Fits types exports imports m = IfSome (named_at 0 m.export exports) (λ e. IfSome (named_at 0 m.import imports) (λ i. IsSubtype types e.1 types i.1))

-- The match fits the exports of the plug's node and the imports of the socket's node.
abbrev pub FitsNodes : Graph → NodeId → NodeId → Match → Type 0
FitsNodes g plug socket m = IfSome (node_at g plug) (λ p. IfSome (node_at g socket) (λ s. Fits g.types (exports_of g p) (imports_of g s) m))

-- Every match fits the exports of the plug's world and the imports of the socket's node.
abbrev pub AllFit : Graph → PackageId → NodeId → List Match → Type 0
AllFit g plug socket ms = (i : ℕ) (m : Match) → slice_get ms i ≡ Some m → IfSome (node_at g socket) (λ s. Fits g.types (exports_of_package g plug) (imports_of g s) m)

-- The node is an instance of this package.
abbrev pub IsNodeOf : Graph → NodeId → PackageId → Type 0
IsNodeOf g node socket = IsSomeAnd (node_at g node) (λ n. n.owner ≡ Some socket)

-- The imports of a node.
abbrev pub node_imports : Graph → NodeId → List (Name × ItemKind)
node_imports g id = option_case (node_at g id) [] (λ n. imports_of g n)

-- The match has these positions among the exports and imports of the nodes, and fits.
pub record IsPair (g : Graph) (plug socket : NodeId) (p : Pair) (m : Match) : Type 0 where
  pub given : ItemKind
  pub taken : ItemKind
  pub exported : HasExport g plug m.export p.export given
  pub imported : HasNamed g socket m.import p.import taken
  pub fits : FitsNodes g plug socket m
