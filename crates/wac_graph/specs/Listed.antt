-- The nodes, packages, arguments and dependencies that a graph lists.
use Rattle.std.specs.Prelude.{ℕ, suc, ◌≡◌, ◌⊎◌, ◌↔◌, true, List, [], ◌∷◌, ◌++◌, map, Contains, Option, Some, None}
use Rattle.std.specs.List.{AllByRecursion}
use Rattle.std.specs.List.Sorted.{IsStrictlySortedBy}
use Rattle.std.specs.Ordering.{nat_cmp}
use Rattle.std.specs.FinMap as finite
use Rattle.std.specs.FinSet as set
use Rattle.wac_types_shapes.specs.primitives.Name.{Name}
use Rattle.wac_types_collection.specs.collection.Package.{PackageParts}
use Rattle.wac_types_shapes.specs.declared.shapes.component.ItemKind.{ItemKind}
use Rattle.wac_graph_model.specs.declared.nodes.node.Node.{Node}
use Rattle.wac_edges.specs.declared.node.NodeId.{NodeId}
use Rattle.wac_graph_model.specs.declared.nodes.packages.PackageId.{PackageId}
use Rattle.wac_graph_model.specs.declared.nodes.packages.Slot.{Slot}
use Rattle.wac_edges.specs.Edge.{node_number}
use Rattle.wac_graph_model.specs.nodes.Graph.{Graph, GraphNode, Kind, instantiation, node_at, imports_of, IsArgumentOf, IsUnsatisfied}
use Rattle.wac_graph_model.specs.nodes.Definitions.{dependency_edge}
use Rattle.wac_graph_model.specs.nodes.Gives.{GivesNode}

-- The ids of the nodes, in order of number.
abbrev pub node_ids : Graph → List NodeId
node_ids g = map node_number (finite.keys g.nodes)

-- The nodes with their ids, in order of number.
pub record AreNodes (g : Graph) (rows : List (NodeId × Node)) : Type 0 where
  pub ids : map (λ r. r.0) rows ≡ node_ids g
  pub given : AllByRecursion (λ r. GivesNode g r.0 r.1) rows

-- The package in the slot with this number, if any, with its id.
abbrev pub held_in : ℕ → ℕ → Option PackageParts → List (PackageId × PackageParts)
held_in slot generation None = []
held_in slot generation (Some p) = (record { slot = slot; generation = generation }, p) ∷ []

-- The packages in the slots, numbered from i on, with their ids.
abbrev pub held_from : ℕ → List Slot → List (PackageId × PackageParts)
held_from i [] = []
held_from i (slot ∷ slots) = held_in i slot.generation slot.«package» ++ held_from (suc i) slots

-- The registered packages with their ids, in order of slot.
abbrev pub packages : Graph → List (PackageId × PackageParts)
packages g = held_from 0 g.slots

-- The imports, numbered from i on, that have an argument, with the argument.
abbrev pub AreSet : Graph → NodeId → ℕ → List (Name × ItemKind) → List (Name × NodeId) → Type 0
AreSet g id i [] rows = rows ≡ []
AreSet g id i (e ∷ imports) rows =
    (IsUnsatisfied g id i × AreSet g id (suc i) imports rows)
    ⊎ ((node : NodeId) × (rest : List (Name × NodeId)) × (rows ≡ (e.0, node) ∷ rest) × IsArgumentOf g id i node × AreSet g id (suc i) imports rest)

-- The imports of an instantiation; none for other nodes.
abbrev pub imports_by : Graph → Option GraphNode → List (Name × ItemKind)
imports_by g None = []
imports_by g (Some node) = of_kind node.kind
  where
    of_kind : Kind → List (Name × ItemKind)
    of_kind instantiation = imports_of g node
    of_kind _ = []

-- The imports of the node with this id, if it is an instantiation.
abbrev pub instance_imports : Graph → NodeId → List (Name × ItemKind)
instance_imports g id = imports_by g (node_at g id)

-- The arguments of an instantiation with their imports' names, in world order; none for other nodes.
abbrev pub AreArguments : Graph → NodeId → List (Name × NodeId) → Type 0
AreArguments g id rows = AreSet g id 0 (instance_imports g id) rows

-- A dependency edge leads from n to the node: it depends on n.
abbrev pub IsDependencyOf : Graph → (n node : NodeId) → Type 0
IsDependencyOf g n node = set.contains g.edges (dependency_edge n node) ≡ true

-- The nodes that a node depends on, each once, in order of number.
pub record AreDependencies (g : Graph) (node : NodeId) (ns : List NodeId) : Type 0 where
  pub all : (n : NodeId) → Contains ns n ↔ IsDependencyOf g n node
  pub ordered : IsStrictlySortedBy nat_cmp (map (λ n. n.0) ns)
