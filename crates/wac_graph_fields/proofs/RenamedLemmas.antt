-- The node that stands in place of one whose names change.
use Rattle.std.proofs.Common.{◌≡◌, ℕ, ap, sym, subst, Some, is_some}
use Rattle.slab.specs.Slab.{Slab, get, Updates, with_value}
use Rattle.slab.proofs.SlabLemmas.{Updates-with_value}
use Rattle.wac_graph_model.specs.declared.nodes.node.Node.{Node}
use Rattle.wac_graph_model.specs.nodes.Graph.{GraphNode}
use Rattle.wac_graph_model.specs.nodes.Nodes.{node_of}
use Rattle.wac_graph_fields.specs.private.Renamed.{Renames}

pub record IsRewritten (change : GraphNode → GraphNode) (old new : Slab Node) (number : ℕ) (n : Node) : Type 0 where
  pub node : Node
  pub kind : node.kind ≡ n.kind
  pub shape : node_of node ≡ change (node_of n)
  pub updates : Updates old new number (Some node)
  pub next : new.vacant_key ≡ old.vacant_key

pub rewritten : (change : GraphNode → GraphNode) (old new : Slab Node) (number : ℕ) (n : Node) → get old number ≡ Some n → Renames change old new number → IsRewritten change old new number n
rewritten change old new number n had h =
    let (m, is, kind, shape) = it in
    record {
      node = m;
      kind = kind;
      shape = shape;
      updates = subst (λ x. Updates old x number (Some m)) (sym is) (Updates-with_value old number m (ap is_some had));
      next = ap (λ s. s.vacant_key) is;
    } where
      it : (m : Node) × (new ≡ with_value old number m) × (m.kind ≡ n.kind) × (node_of m ≡ change (node_of n))
      it = rw had at h
