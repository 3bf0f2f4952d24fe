-- The imports of a graph: implicit (unsatisfied arguments) and explicit (import nodes).
use Rattle.std.specs.Prelude.{ℕ, suc, Bool, false, ◌&&◌, ◌==◌, if◌then◌else◌, List, [], ◌∷◌, ◌++◌, Option, Some, None}
use Rattle.std.specs.List.{flat_map, list_any}
use Rattle.std.specs.FinMap as finite
use Rattle.std.specs.FinSet as set
use Rattle.wac_types_shapes.specs.primitives.Name.{Name}
use Rattle.wac_types_shapes.specs.declared.shapes.component.ItemKind.{ItemKind}
use Rattle.wac_edges.specs.declared.edges.Label.{Label}
use Rattle.wac_edges.specs.declared.edges.Label.TheVariants.{Argument}
use Rattle.wac_edges.specs.declared.edges.Edge.{Edge}
use Rattle.wac_graph_model.specs.nodes.Graph.{Graph, GraphNode, Kind, import, instantiation, node_at, imports_of}

-- An import of the graph: its name, its type, and the node that needs it.
pub record Entry : Type 0 where
  pub name : Name
  pub kind : ItemKind
  pub node : ℕ

-- The label is that of the argument at position i.
abbrev pub is_argument_label : ℕ → Label → Bool
is_argument_label i (Argument j) = i == j
is_argument_label i _ = false

-- The edge is an argument of node n at position i.
abbrev pub is_argument : ℕ → ℕ → Edge → Bool
is_argument n i e = (e.target.0 == n) && is_argument_label i e.label

-- An argument satisfies the import of node n at position i.
abbrev pub is_satisfied : Graph → ℕ → ℕ → Bool
is_satisfied g n i = list_any (is_argument n i) (set.items g.edges)

-- The unsatisfied imports from position i on, in world order.
abbrev pub unsatisfied : Graph → ℕ → ℕ → List (Name × ItemKind) → List Entry
unsatisfied g n i [] = []
unsatisfied g n i (e ∷ imports) =
    if is_satisfied g n i then unsatisfied g n (suc i) imports
    else record { name = e.0; kind = e.1; node = n } ∷ unsatisfied g n (suc i) imports

-- The implicit imports of a node: those of an instantiation without an argument.
abbrev pub asked_by : Graph → ℕ → Option GraphNode → List Entry
asked_by g n None = []
asked_by g n (Some node) = of_kind node.kind
  where
    of_kind : Kind → List Entry
    of_kind instantiation = unsatisfied g n 0 (imports_of g node)
    of_kind _ = []

-- The explicit import of a node: that of an import node.
abbrev pub imported_by : ℕ → Option GraphNode → List Entry
imported_by n None = []
imported_by n (Some node) = of_kind node.kind
  where
    of_kind : Kind → List Entry
    of_kind (import name) = record { name = name; kind = node.item_kind; node = n } ∷ []
    of_kind _ = []

-- The imports of the graph: implicit ones by node number and world order, then explicit ones by node number.
abbrev pub asked : Graph → List Entry
asked g = flat_map (λ n. asked_by g n (node_at g (record { 0 = n }))) (finite.keys g.nodes) ++ flat_map (λ n. imported_by n (node_at g (record { 0 = n }))) (finite.keys g.nodes)
