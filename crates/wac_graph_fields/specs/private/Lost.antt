-- The positions of exports whose nodes are removed. Only private functions use these definitions.
use Rattle.std.specs.Prelude.{◌≡◌, ℕ, Bool, true, List, Contains, Option, Some, None, String, slice_get}
use Rattle.std.specs.Global.{Global}
use Rattle.std.specs.BTreeSet as numbers
use Rattle.std.specs.Ordering.{nat_cmp}
use Rattle.std.specs.Option.{option_map}
use Rattle.slab.specs.Slab.{Slab, get}
use Rattle.wac_types_shapes.specs.primitives.Name.{Name}
use Rattle.wac_edges.specs.declared.node.NodeId.{NodeId}
use Rattle.wac_graph_model.specs.declared.nodes.node.Node.{Node}
use Rattle.wac_graph_model.specs.nodes.Graph.{GraphNode}
use Rattle.wac_graph_model.specs.nodes.Nodes.{node_of, names_of}
use Rattle.wac_graph_fields.specs.private.Told.{tells}
use Rattle.wac_graph_fields.specs.declared.lost.Lost.{Lost}

-- The node with this number may have several export names.
abbrev pub is_again : Lost → ℕ → Bool
is_again lost q = numbers.contains nat_cmp lost.again q

-- Each export is its node's latest, or its node is marked as having several.
abbrev pub AreTold : Lost → Slab Node → List (String Global × NodeId) → Type 0
AreTold lost nodes exports = (i : ℕ) (name : Name) (n : NodeId) → slice_get (names_of exports) i ≡ Some (name, n) → tells (is_again lost n.0) (option_map node_of (get nodes n.0)) name ≡ true

-- The position is noted, or the record says that positions are missing.
abbrev pub IsNoted : Lost → ℕ → Type 0
IsNoted lost i = lost.is_complete ≡ true → Contains lost.positions.items i

-- The export belongs to an existing node that leads to it, or its position is noted.
abbrev pub IsToldOf : Lost → ℕ → Name → NodeId → Option GraphNode → Type 0
IsToldOf lost i name n None = IsNoted lost i
IsToldOf lost i name n (Some node) = tells (is_again lost n.0) (Some node) name ≡ true

-- Each export belongs to an existing node that leads to it, or its position is noted.
abbrev pub AreNoted : Slab Node → Lost → List (String Global × NodeId) → Type 0
AreNoted nodes lost exports = (i : ℕ) (name : Name) (n : NodeId) → slice_get (names_of exports) i ≡ Some (name, n) → IsToldOf lost i name n (option_map node_of (get nodes n.0))
