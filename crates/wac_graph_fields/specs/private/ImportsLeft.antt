-- The rest of a walk over a graph's imports. Only private functions use these definitions.
use Rattle.std.specs.Prelude.{ℕ, zero, suc, ◌+◌, ◌-◌, Bool, if◌then◌else◌, List, [], ◌∷◌, ◌++◌, map, drop, Option, Some, None}
use Rattle.std.specs.List.{flat_map, range_with_len}
use Rattle.wac_types_shapes.specs.primitives.Name.{Name}
use Rattle.wac_types_shapes.specs.declared.shapes.component.ItemKind.{ItemKind}
use Rattle.wac_edges.specs.declared.node.NodeId.{NodeId}
use Rattle.wac_edges.specs.Edge.{node_number}
use Rattle.wac_graph_model.specs.nodes.Graph.{Graph, GraphNode, Kind, instantiation, node_at, imports_of}
use Rattle.wac_graph_model.specs.nodes.Asked.{is_satisfied}
use Rattle.wac_graph_model.specs.nodes.Imports.{unset_rows, node_rows}

-- The imports, numbered from i on, whose positions are not in the set.
abbrev pub unset : (ℕ → Bool) → ℕ → List (Name × ItemKind) → List (Name × ItemKind)
unset set i [] = []
unset set i (e ∷ imports) = if set i then unset set (suc i) imports else e ∷ unset set (suc i) imports

-- The imports of a world from position i on whose positions are not in the set.
abbrev pub unset_from : (ℕ → Bool) → List (Name × ItemKind) → ℕ → List (Name × ItemKind)
unset_from set imports i = unset set i (drop i imports)

-- The row of an implicit import.
abbrev pub row_of : Name × ItemKind → Name × ItemKind × Option NodeId
row_of e = (e.0, e.1, None)

-- The rows of an instantiation's unsatisfied imports from position i on.
abbrev pub node_left : Graph → ℕ → ℕ → Option GraphNode → List (Name × ItemKind × Option NodeId)
node_left g n i None = []
node_left g n i (Some node) = of_kind node.kind
  where
    of_kind : Kind → List (Name × ItemKind × Option NodeId)
    of_kind instantiation = map row_of (unset_from (is_satisfied g n) (imports_of g node) i)
    of_kind _ = []

-- The rows of `count` instantiations from number n on; the first one's start at position i.
abbrev pub instantiations_left : Graph → ℕ → ℕ → ℕ → List (Name × ItemKind × Option NodeId)
instantiations_left g n i zero = []
instantiations_left g n i (suc count) = node_left g n i (node_at g (node_number n)) ++ flat_map (unset_rows g) (range_with_len (n + 1) count)

-- The rows of the import nodes among `count` numbers from n on.
abbrev pub nodes_left : Graph → ℕ → ℕ → List (Name × ItemKind × Option NodeId)
nodes_left g n count = flat_map (node_rows g) (range_with_len n count)

-- The rows of instantiations from a number and position on, then of import nodes from a number on, up to the end.
abbrev pub left : Graph → ℕ → ℕ → ℕ → ℕ → List (Name × ItemKind × Option NodeId)
left g number position node end = instantiations_left g number position (end - number) ++ nodes_left g node (end - node)
