-- What stored nodes define and bring is so in a graph of them.
use Rattle.std.proofs.Common.{◌≡◌, ℕ, true, refl, ap, ◌∙◌, sym, subst, Option, Some, None, IsSome, ◌⊎◌, inl, inr}
use Rattle.std.specs.Prelude.{◌↔◌, IsSomeAnd}
use Rattle.std.specs.FinMap as map
use Rattle.std.specs.FinSet as set
use Rattle.slab.specs.Slab.{Slab}
use Rattle.wac_types_shapes.specs.shapes.Kinds.{kind_type}
use Rattle.wac_types_shapes.specs.declared.shapes.component.«Type».{«Type» as AnyType}
use Rattle.wac_types_shapes.specs.declared.shapes.component.ItemKind.TheVariants.{TypeItem}
use Rattle.wac_types_collection.specs.collection.Collection.{holds_type}
use Rattle.wac_edges.specs.declared.edges.Edge.{Edge}
use Rattle.wac_edges.specs.declared.node.NodeId.{NodeId}
use Rattle.wac_edges.specs.Edge.{node_number}
use Rattle.wac_edges.specs.Order.{Edges}
use Rattle.wac_graph_model.specs.declared.nodes.node.Node.{Node}
use Rattle.wac_graph_model.specs.nodes.Graph as graph
use Rattle.wac_graph_model.specs.nodes.Graph.{Graph, GraphNode, node_at, IsDefinitionOf}
use Rattle.wac_graph_model.specs.nodes.Nodes.{nodes_of}
use Rattle.wac_graph_model.specs.nodes.Sound.{IsSound}
use Rattle.wac_graph_model.specs.nodes.Definitions.{IsUndefined, IsDependency, reached, reaching, WithDependencies}
use Rattle.wac_graph_model.proofs.lemmas.nodes.NodeLemmas.{get-nodes_of}
use Rattle.wac_graph_fields.specs.private.Stored.{DefinesAt, AreHeld, Brings}

abbrev Defines : AnyType → Option GraphNode → Type 0
Defines t o = IsSomeAnd o (λ x. (x.kind ≡ graph.definition) × (x.item_kind ≡ TypeItem t))

module _ (g : Graph) (nodes : Slab Node) (same : g.nodes ≡ nodes_of nodes.slots) where
  pub defined_there : (t : AnyType) (n : NodeId) → DefinesAt nodes t n.0 → IsDefinitionOf g (TypeItem t) n
  defined_there t n h = subst (Defines t) (sym (ap (λ m. map.get m n.0) same ∙ get-nodes_of nodes.slots n.0)) h

  pub defined_here : (t : AnyType) (n : NodeId) → IsDefinitionOf g (TypeItem t) n → DefinesAt nodes t n.0
  defined_here t n h = subst (Defines t) (ap (λ m. map.get m n.0) same ∙ get-nodes_of nodes.slots n.0) h

  pub defined_nowhere : (t : AnyType) → ((q : ℕ) → DefinesAt nodes t q → ⊥) → IsUndefined g t
  defined_nowhere t none n h = none n.0 (defined_here t n h)

  pub defined_held : IsSound g → AreHeld g.types nodes
  defined_held s q t h = by_node (node_at g (node_number q)) refl (defined_there t (node_number q) h) where
    by_node : (o : Option GraphNode) → node_at g (node_number q) ≡ o → Defines t o → holds_type g.types t ≡ true
    by_node None at h = absurd h
    by_node (Some x) at (_, is) = ap (λ k. holds_type g.types (kind_type k)) (sym is) ∙ s.held (node_number q) x at

  -- a node that is not there has no edges
  pub vacant_bare : IsSound g → (n : NodeId) → node_at g n ≡ None → (e : Edge) → set.contains g.edges e ≡ true → (e.source ≡ n) ⊎ (e.target ≡ n) → ⊥
  vacant_bare s n vacant e stands (inl is) = nothing (node_at g n) vacant (subst (λ m. IsSome (node_at g m)) is (s.ends e stands).0) where
    nothing : (o : Option GraphNode) → o ≡ None → IsSome o → ⊥
    nothing None at h = cc
    nothing (Some x) at h = cc
  vacant_bare s n vacant e stands (inr is) = nothing (node_at g n) vacant (subst (λ m. IsSome (node_at g m)) is (s.ends e stands).1) where
    nothing : (o : Option GraphNode) → o ≡ None → IsSome o → ⊥
    nothing None at h = cc
    nothing (Some x) at h = cc

  pub with_brought : (t : AnyType) (n : NodeId) (edges : Edges) → ((e : Edge) → (set.contains edges e ≡ true) ↔ (Brings g.types nodes t n e ⊎ (set.contains g.edges e ≡ true))) → WithDependencies g t n edges
  with_brought t n edges so e = (λ h. onward ((so e).0 h), λ h. (so e).1 (back h)) where
    onward : Brings g.types nodes t n e ⊎ (set.contains g.edges e ≡ true) → IsDependency g t n e ⊎ (set.contains g.edges e ≡ true)
    onward (inl (q, u, defined, inl ((is_value, reaches), is))) = inl (reached (node_number q) u (defined_there u (node_number q) defined) is_value reaches is)
    onward (inl (q, u, defined, inr ((is_value, reaches), is))) = inl (reaching (node_number q) u (defined_there u (node_number q) defined) is_value reaches is)
    onward (inr was) = inr was

    back : IsDependency g t n e ⊎ (set.contains g.edges e ≡ true) → Brings g.types nodes t n e ⊎ (set.contains g.edges e ≡ true)
    back (inl (reached m u defined is_value reaches is)) = inl (m.0, u, defined_here u m defined, inl ((is_value, reaches), is))
    back (inl (reaching m u defined is_value reaches is)) = inl (m.0, u, defined_here u m defined, inr ((is_value, reaches), is))
    back (inr was) = inr was
