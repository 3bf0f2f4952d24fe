-- The nodes of a graph that are written so far, after its imports.
use Rattle.std.specs.Prelude.{ℕ, ◌≡◌, List, [], ◌++◌, Some}
use Rattle.wac_types_shapes.specs.primitives.Name.{Name}
use Rattle.wac_types_shapes.specs.primitives.Tree.{Tree}
use Rattle.wac_types_collection.specs.collection.Bound.{Bindings}
use Rattle.wac_binary.specs.Items.{Item}
use Rattle.wac_edges.specs.declared.node.NodeId.{NodeId}
use Rattle.wac_edges.specs.Order.{Writes}
use Rattle.wac_graph_model.specs.declared.nodes.options.EncodeOptions.{EncodeOptions}
use Rattle.wac_graph_model.specs.nodes.Graph.{Graph, GraphNode, import, node_at}
use Rattle.wac_graph_model.specs.nodes.OuterImports.{IsImportPlace}
use Rattle.wac_graph_model.specs.meaning.Means.{is_written}
use Rattle.wac_graph_model.specs.private.meaning.Beginning.{Places, Begins, IsPlacedNode}
use Rattle.wac_graph_model.specs.private.meaning.Encoding.{Progress, index_in, HasRoom}
use Rattle.wac_graph_model.specs.private.meaning.Writing.{WroteAll}

-- Each import node has the index of its class's import.
abbrev pub ArePlacedNodes : Graph → List (Name × Tree) → Places → (NodeId → ℕ) → Type 0
ArePlacedNodes g classes places index = (n : NodeId) (node : GraphNode) (name : Name) → node_at g n ≡ Some node → node.kind ≡ import name
    → (p : ℕ) × IsImportPlace g name p × IsPlacedNode g classes places index n node p

-- The first nodes of the order are written after items that begin with the imports of the classes. Resources of the root are bound by m.
pub record IsWrittenSoFar (g : Graph) (o : EncodeOptions) (classes : List (Name × Tree)) (m : Bindings) (places : Places) (order done : List NodeId) (p : Progress) : Type 0 where
  pub in_order : Writes g.edges (is_written g) order
  pub rest : List NodeId
  pub split : order ≡ done ++ rest
  pub begin : List Item
  pub indexes : List ℕ
  pub begins : Begins classes places begin
  pub room : HasRoom g indexes
  pub placed : ArePlacedNodes g classes places (index_in indexes)
  pub wrote : WroteAll g o m places done (record { items = begin; components = []; indexes = indexes }) p
