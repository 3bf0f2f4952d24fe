-- What the fields say of a definition that is written.
use Rattle.std.proofs.Common.{◌≡◌, ℕ, true, ◌∙◌, sym, subst, Some, None, IsSomeAnd}
use Rattle.slab.specs.Slab.{get}
use Rattle.wac_types_shapes.specs.shapes.Kinds.{kind_type}
use Rattle.wac_types_shapes.specs.declared.shapes.component.ItemKind.TheVariants.{TypeItem}
use Rattle.wac_types_shapes.specs.declared.shapes.component.«Type».{«Type» as AnyType}
use Rattle.wac_types_collection.specs.collection.Collection.{holds_type}
use Rattle.wac_edges.specs.Edge.{node_number}
use Rattle.wac_graph_model.specs.declared.nodes.node.Node.{Node}
use Rattle.wac_graph_model.specs.declared.nodes.node.NodeKind.{NodeKind}
use Rattle.wac_graph_model.specs.declared.nodes.node.NodeKind.TheVariants as code
use Rattle.wac_graph_model.specs.nodes.Graph as graph
use Rattle.wac_graph_model.specs.nodes.Graph.{node_at}
use Rattle.wac_graph_model.specs.nodes.Nodes.{node_of, kind_of}
use Rattle.wac_graph_model.specs.nodes.Sound.{IsTypeUnderName}
use Rattle.wac_graph_fields.specs.private.Fields.{Fields, graph_of, Invariant}
use Rattle.wac_graph_reader.proofs.lemmas.writing.EncodingLemmas.{node_is, of_node}

pub the_definition : (k : NodeKind) → kind_of k ≡ graph.definition → k ≡ code.Definition
the_definition code.Definition h = λ i. code.Definition
the_definition (code.Import name) h = cc
the_definition (code.Instantiation s) h = cc
the_definition code.Alias h = cc

-- each node's item is of a held type
pub item_held : (a : Fields) → Invariant a → (n : ℕ) (node : Node) → get a.nodes n ≡ Some node → holds_type a.types (kind_type node.item_kind) ≡ true
item_held a v n node had = (v.sound).held (node_number n) (node_of node) (node_is a n (Some node) had)

module _ (a : Fields) (v : Invariant a) (n : ℕ) (node : Node) (had : get a.nodes n ≡ Some node) (h : IsSomeAnd (node_at (graph_of a) (node_number n)) (λ x. x.kind ≡ graph.definition)) where
  defined : kind_of node.kind ≡ graph.definition
  defined = of_node a n node (λ x. x.kind ≡ graph.definition) h had

  it : IsTypeUnderName (node_of node)
  it = (v.sound).definitions (node_number n) (node_of node) (node_is a n (Some node) had) defined

  pub is_type : ((t : AnyType) → node.item_kind ≡ TypeItem t → ⊥) → ⊥
  is_type other = other it.defined it.typed

  pub is_named : (node_of node).first_name ≡ None → ⊥
  is_named none = clash (sym none ∙ it.named) where
    clash : None ≡ Some it.name → ⊥
    clash e = cc

  module _ (t : AnyType) (typed : node.item_kind ≡ TypeItem t) where
    pub type_held : holds_type a.types t ≡ true
    type_held = subst (λ k. holds_type a.types (kind_type k) ≡ true) typed (item_held a v n node had)
