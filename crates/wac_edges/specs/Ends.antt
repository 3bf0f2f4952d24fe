-- The edges at an end of a node.
use Rattle.std.specs.Prelude.{ℕ, ◌≡◌, ◌≢◌, ◌+◌, ◌↔◌, true, List, Contains, AllPairs, Option, Some, None}
use Rattle.std.specs.FinSet as set
use Rattle.std.specs.Iterator.{YieldsFirst}
use Rattle.wac_edges.specs.declared.edges.End.{End}
use Rattle.wac_edges.specs.declared.edges.End.TheVariants.{Outgoing, Incoming}
use Rattle.wac_edges.specs.declared.edges.Label.{Label}
use Rattle.wac_edges.specs.declared.edges.Edge.{Edge}
use Rattle.wac_edges.specs.declared.node.NodeId.{NodeId}
use Rattle.wac_edges.specs.Order.{Edges}

-- The node at this end of an edge: outgoing edges are at their source, incoming edges at their target.
abbrev pub at_end : End → Edge → NodeId
at_end Outgoing e = e.source
at_end Incoming e = e.target

-- An iterator over edges: the edges that it will return, and the number of records read so far.
pub record Walked : Type 0 where
  pub left : List Edge
  pub steps : ℕ

-- The list has the edges of the set at this end of the node, each once.
pub record AreAt (edges : Edges) (node : NodeId) (end : End) (es : List Edge) : Type 0 where
  pub all : (e : Edge) → Contains es e ↔ ((set.contains edges e ≡ true) × (at_end end e ≡ node))
  pub once : AllPairs (λ a b. a ≢ b) es

-- One record is read for an edge, and none at the end.
abbrev pub steps_for : Option Edge → ℕ
steps_for None = 0
steps_for (Some e) = 1

-- The iterator returns the first of its edges.
abbrev pub Gives : Walked → Option Edge → Walked → Type 0
Gives old item new = YieldsFirst (λ (w : Walked). w.left) old item new × (new.steps ≡ old.steps + steps_for item)

-- An edge of the set at this end of the node has this label.
abbrev pub HasLabel : Edges → NodeId → End → Label → Type 0
HasLabel edges node end label = (e : Edge) × (set.contains edges e ≡ true) × (at_end end e ≡ node) × (e.label ≡ label)
