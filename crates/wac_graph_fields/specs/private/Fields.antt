-- The fields of a graph: their value and their invariant.
use Rattle.std.specs.Prelude.{◌≡◌, ◌≤◌, ℕ, true, length, Some, String, Vec, vec_capacity}
use Rattle.std.specs.Global.{Global}
use Rattle.std.specs.FinSet as set
use Rattle.std.specs.HashMap.{HashMap}
use Rattle.std.specs.declared.hash.FoldHasher.{FoldHasher}
use Rattle.std.specs.declared.hash.BuildHasherDefault.{BuildHasherDefault}
use Rattle.slab.specs.Slab.{Slab, get}
use Rattle.wac_types_shapes.specs.primitives.Name.{Name, find_name}
use Rattle.wac_types_collection.specs.collection.Collection.{Collection}
use Rattle.wac_types_shapes.specs.keys.Key.{Key}
use Rattle.wac_edges.specs.declared.node.NodeId.{NodeId}
use Rattle.wac_edges.specs.Edge.{argument_edge}
use Rattle.wac_edges.specs.Order.{Edges}
use Rattle.wac_graph_model.specs.declared.nodes.node.Node.{Node}
use Rattle.wac_graph_model.specs.declared.nodes.packages.PackageId.{PackageId}
use Rattle.wac_graph_model.specs.declared.nodes.packages.Slot.{Slot}
use Rattle.wac_graph_model.specs.nodes.Graph.{Graph, IsImportOf}
use Rattle.wac_graph_model.specs.nodes.Nodes.{nodes_of, names_of, satisfied_at}
use Rattle.wac_graph_model.specs.nodes.Sound.{IsSound}
use Rattle.wac_graph_fields.specs.declared.lost.Lost.{Lost}
use Rattle.wac_graph_fields.specs.private.Lost.{AreTold}
use Rattle.wac_graph_fields.specs.private.Slots.{AreKeyed, vacant_of}

-- A map from names to nodes.
abbrev pub Names : Type 0
Names = HashMap (String Global) NodeId (BuildHasherDefault FoldHasher)

-- The fields of a graph.
pub record Fields : Type 0 where
  pub types : Collection
  pub nodes : Slab Node
  pub edges : Edges
  pub imports : Names
  pub exports : Names
  pub package_map : HashMap Key PackageId (BuildHasherDefault FoldHasher)
  pub slots : Vec Slot Global
  pub vacant : Vec ℕ Global
  pub lost : Lost

-- The graph that the fields represent.
abbrev pub graph_of : Fields → Graph
graph_of a = record {
  types = a.types;
  nodes = nodes_of a.nodes.slots;
  next = a.nodes.vacant_key;
  edges = a.edges;
  exports = names_of a.exports.entries;
  slots = a.slots.items;
  vacant = vacant_of a.vacant;
}

-- The invariant of the fields.
pub record Invariant (a : Fields) : Type 0 where
  pub sound : IsSound (graph_of a)
  -- The satisfied positions of a node are exactly those with an argument edge.
  pub marked : (source target : NodeId) (position : ℕ) → set.contains a.edges (argument_edge source target position) ≡ true → satisfied_at (get a.nodes target.0) position ≡ true
  pub edged : (target : NodeId) (position : ℕ) → satisfied_at (get a.nodes target.0) position ≡ true → (source : NodeId) × (set.contains a.edges (argument_edge source target position) ≡ true)
  -- Packages are found under their keys, and there is memory to free each slot.
  pub keyed : AreKeyed a.slots.items a.package_map.entries
  pub room : length a.slots.items ≤ vec_capacity a.vacant
  -- Exactly the import nodes are found under their names.
  pub named : (name : Name) (n : NodeId) → IsImportOf (graph_of a) name n → find_name (names_of a.imports.entries) name ≡ Some n
  pub importing : (name : Name) (n : NodeId) → find_name (names_of a.imports.entries) name ≡ Some n → IsImportOf (graph_of a) name n
  -- Each export is its node's latest, or its node is marked as having several.
  pub told : AreTold a.lost a.nodes a.exports.entries
