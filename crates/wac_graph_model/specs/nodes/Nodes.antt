-- The value of stored nodes.
use Rattle.std.specs.Prelude.{◌≡◌, ℕ, ◌<◌, nat_eq, Bool, false, List, Option, Some, None, String, Box, map, string_bytes}
use Rattle.std.specs.Global.{Global}
use Rattle.std.specs.Option.{option_map}
use Rattle.std.specs.Ordering.{nat_cmp}
use Rattle.std.specs.FinMap as finite
use Rattle.std.specs.HashSet as positions
use Rattle.std.specs.declared.hash.BuildHasherDefault.{BuildHasherDefault}
use Rattle.std.specs.declared.hash.FoldHasher.{FoldHasher}
use Rattle.slab.specs.Slab.{entries_from}
use Rattle.wac_types_shapes.specs.primitives.Name.{Name}
use Rattle.wac_types_shapes.specs.declared.shapes.component.ItemKind.{ItemKind}
use Rattle.wac_graph_model.specs.declared.nodes.node.Node.{Node}
use Rattle.wac_graph_model.specs.declared.nodes.node.NodeNames.{NodeNames}
use Rattle.wac_graph_model.specs.declared.nodes.packages.PackageId.{PackageId}
use Rattle.wac_edges.specs.declared.node.NodeId.{NodeId}
use Rattle.wac_graph_model.specs.declared.nodes.node.NodeKind.{NodeKind}
use Rattle.wac_graph_model.specs.declared.nodes.node.NodeKind.TheVariants as code
use Rattle.wac_graph_model.specs.nodes.Graph as graph
use Rattle.wac_graph_model.specs.nodes.Graph.{GraphNode, Kind}

-- The kind of a stored node.
abbrev pub kind_of : NodeKind → Kind
kind_of code.Definition = graph.definition
kind_of (code.Import name) = graph.import (string_bytes name)
kind_of (code.Instantiation _) = graph.instantiation
kind_of code.Alias = graph.alias

-- The node's own name.
abbrev pub name_in : Option (Box NodeNames Global) → Option Name
name_in None = None
name_in (Some names) = option_map string_bytes names.value.name

-- The latest export name.
abbrev pub export_name_in : Option (Box NodeNames Global) → Option Name
export_name_in None = None
export_name_in (Some names) = option_map string_bytes names.value.export_name

-- The first export name of a definition.
abbrev pub first_name_in : Option (Box NodeNames Global) → Option Name
first_name_in None = None
first_name_in (Some names) = option_map string_bytes names.value.first_name

-- The value of a stored node.
abbrev pub node_of : Node → GraphNode
node_of n = record {
  kind = kind_of n.kind;
  item_kind = n.item_kind;
  owner = n.«package»;
  name = name_in n.names;
  export_name = export_name_in n.names;
  first_name = first_name_in n.names;
}

-- A node without names.
abbrev pub unnamed : Kind → Option PackageId → ItemKind → GraphNode
unnamed kind owner item = record { kind = kind; item_kind = item; owner = owner; name = None; export_name = None; first_name = None }

-- The stored nodes by number.
abbrev pub nodes_of : List (Option Node) → finite.FinMap nat_cmp GraphNode
nodes_of slots = finite.from_entries (map (λ e. (e.0, node_of e.1)) (entries_from 0 slots))

-- The entries with their names as bytes.
abbrev pub names_of : List (String Global × NodeId) → List (Name × NodeId)
names_of entries = map (λ e. (string_bytes e.0, e.1)) entries

-- A set of positions.
abbrev pub Positions : Type 0
Positions = positions.HashSet ℕ (BuildHasherDefault FoldHasher)

-- The position is in the set.
abbrev pub has_position : Positions → ℕ → Bool
has_position s i = positions.contains nat_eq s i

-- The position is among the satisfied ones of an instantiation.
abbrev pub satisfied : NodeKind → ℕ → Bool
satisfied (code.Instantiation s) i = has_position s i
satisfied code.Definition i = false
satisfied (code.Import _) i = false
satisfied code.Alias i = false

-- The position is among the satisfied ones of the node, if there is one.
abbrev pub satisfied_at : Option Node → ℕ → Bool
satisfied_at None i = false
satisfied_at (Some n) i = satisfied n.kind i

-- The slot has an instantiation.
abbrev pub IsInstantiationAt : Option Node → Type 0
IsInstantiationAt None = ⊥
IsInstantiationAt (Some n) = kind_of n.kind ≡ graph.instantiation

-- The node is an instantiation, and one more position fits into its set without memory.
abbrev pub KindHasRoom : NodeKind → Type 0
KindHasRoom (code.Instantiation s) = 0 < positions.spare s
KindHasRoom code.Definition = ⊥
KindHasRoom (code.Import _) = ⊥
KindHasRoom code.Alias = ⊥

-- The slot has such an instantiation.
abbrev pub HasRoomForMark : Option Node → Type 0
HasRoomForMark None = ⊥
HasRoomForMark (Some n) = KindHasRoom n.kind
