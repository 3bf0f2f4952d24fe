-- The graph's imports as rows: name, type, and the node of an explicit import.
use Rattle.std.specs.Prelude.{ℕ, List, ◌++◌, map, Option, Some, None}
use Rattle.std.specs.List.{flat_map}
use Rattle.std.specs.FinMap as finite
use Rattle.wac_types_shapes.specs.primitives.Name.{Name}
use Rattle.wac_types_shapes.specs.declared.shapes.component.ItemKind.{ItemKind}
use Rattle.wac_edges.specs.declared.node.NodeId.{NodeId}
use Rattle.wac_graph_model.specs.nodes.Graph.{Graph, node_at}
use Rattle.wac_graph_model.specs.nodes.Asked.{Entry, asked_by, imported_by}

-- The row of an implicit import.
abbrev pub unset_row : Entry → Name × ItemKind × Option NodeId
unset_row e = (e.name, e.kind, None)

-- The row of an explicit import.
abbrev pub node_row : Entry → Name × ItemKind × Option NodeId
node_row e = (e.name, e.kind, Some (record { 0 = e.node }))

-- The unsatisfied imports of the instantiation with this number, in world order.
abbrev pub unset_rows : Graph → ℕ → List (Name × ItemKind × Option NodeId)
unset_rows g n = map unset_row (asked_by g n (node_at g (record { 0 = n })))

-- The row of the import node with this number, if it is one.
abbrev pub node_rows : Graph → ℕ → List (Name × ItemKind × Option NodeId)
node_rows g n = map node_row (imported_by n (node_at g (record { 0 = n })))

-- All rows: implicit imports by node number, then explicit imports by node number.
abbrev pub asked_rows : Graph → List (Name × ItemKind × Option NodeId)
asked_rows g = flat_map (unset_rows g) (finite.keys g.nodes) ++ flat_map (node_rows g) (finite.keys g.nodes)
