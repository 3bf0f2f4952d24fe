-- Which nodes are written, and where an instantiation is among those of an order.
use Rattle.std.proofs.Common.{◌≡◌, ℕ, Bool, true, false, not, cond, List, [], ◌∷◌, ◌++◌, length, refl, ap, ◌∙◌, sym, Option, Some, None, ◌⊎◌, inl, inr}
use Rattle.std.specs.List.{filter}
use Rattle.std.specs.Prelude.{slice_get}
use Rattle.std.specs.FinSet as set
use Rattle.std.proofs.lemmas.List.Elements.{filter-append}
use Rattle.wac_types_shapes.specs.primitives.Name.{Name, option_case}
use Rattle.wac_binary.specs.Meaning.{Thing, import_at}
use Rattle.wac_edges.specs.declared.edges.Edge.{Edge}
use Rattle.wac_edges.specs.declared.node.NodeId.{NodeId}
use Rattle.wac_graph_model.specs.nodes.Graph as graph
use Rattle.wac_graph_model.specs.nodes.Graph.{Graph, GraphNode, node_at}
use Rattle.wac_graph_model.specs.nodes.OuterImports.{IsImportPlace}
use Rattle.wac_edges.specs.Order.{IsLowestReady}
use Rattle.wac_graph_model.specs.meaning.Means.{node_is, is_import, is_instantiation, is_written, instantiations}
use Rattle.wac_edges.proofs.WrittenOrder.{has, minus, minus-false, minus-true, same, same-true, apart, in_push, slice_get-middle}

-- every node is an instantiation or an alias
abbrev pub IsPlain : Graph → Type 0
IsPlain g = (n : NodeId) (node : GraphNode) → node_at g n ≡ Some node → (node.kind ≡ graph.instantiation) ⊎ (node.kind ≡ graph.alias)

-- a node stands for something already: it is an import, or it is written
abbrev pub Stands : List NodeId → NodeId → GraphNode → Type 0
Stands done n node = (is_import node.kind ≡ true) ⊎ (has done n ≡ true)

pub written_node : (g : Graph) (n : NodeId) (node : GraphNode) → node_at g n ≡ Some node → is_import node.kind ≡ false → is_written g n ≡ true
written_node g n node there is = ap (λ o. option_case o false (λ x. not (is_import x.kind))) there ∙ ap not is

pub node_of_written : (g : Graph) (n : NodeId) → is_written g n ≡ true → (node : GraphNode) × (node_at g n ≡ Some node) × (is_import node.kind ≡ false)
node_of_written g n h = split (node_at g n) refl h where
  no_import : (b : Bool) → not b ≡ true → b ≡ false
  no_import true h = cc
  no_import false h = refl

  split : (o : Option GraphNode) → node_at g n ≡ o → option_case o false (λ x. not (is_import x.kind)) ≡ true → (node : GraphNode) × (node_at g n ≡ Some node) × (is_import node.kind ≡ false)
  split None is wrong = cc
  split (Some node) is h = (node, is, no_import (is_import node.kind) h)

clash : (b : Bool) → b ≡ true → b ≡ false → ⊥
clash true _ h = cc
clash false h _ = cc

same_node : (g : Graph) (n : NodeId) (node other : GraphNode) → node_at g n ≡ Some node → node_at g n ≡ Some other → node ≡ other
same_node g n node other a b = cc

-- what stands already is not the next node
pub stands_apart : (g : Graph) (done : List NodeId) (m n : NodeId) (node : GraphNode) → minus (is_written g) done n ≡ true → node_at g m ≡ Some node → Stands done m node → same m n ≡ false
stands_apart g done m n node left there (inr here) = apart done m n here (minus-true (is_written g) done n left).1
stands_apart g done m n node left there (inl import) = split (same m n) refl where
  split : (b : Bool) → same m n ≡ b → b ≡ false
  split false _ = refl
  split true is =
      let (other, other_there, no_import) = node_of_written g n (minus-true (is_written g) done n left).0 in
      let e : node ≡ other = same_node g n node other (ap (node_at g) (sym (same-true m n is)) ∙ there) other_there in
      absurd (clash (is_import node.kind) import (ap (λ (x : GraphNode). is_import x.kind) e ∙ no_import))

-- what stands after one more is the one or stood before
pub stood : (done : List NodeId) (n m : NodeId) (node : GraphNode) → Stands (done ++ n ∷ []) m node → (m ≡ n) ⊎ Stands done m node
stood done n m node (inl import) = inr (inl import)
stood done n m node (inr within) = split (in_push done n m within) where
  split : (m ≡ n) ⊎ (has done m ≡ true) → (m ≡ n) ⊎ Stands done m node
  split (inl same) = inl same
  split (inr was) = inr (inr was)

-- the sources of a ready node's edges stand
pub ready_sources : (g : Graph) (done : List NodeId) (n : NodeId) → IsLowestReady g.edges (minus (is_written g) done) n → (e : Edge) → set.contains g.edges e ≡ true → e.target ≡ n → (node : GraphNode) → node_at g e.source ≡ Some node → Stands done e.source node
ready_sources g done n ready e stands leads node there = split (is_import node.kind) refl where
  split : (b : Bool) → is_import node.kind ≡ b → Stands done e.source node
  split true is = inl is
  split false is = inr (minus-false (is_written g) done e.source (ready.free e stands leads) (written_node g e.source node there is))

-- P is what is to be known of an import node and the position of its import
module _ (g : Graph) (P : NodeId → GraphNode → ℕ → Type 0) where
  -- an import node stands for an import into which its name fell
  pub record IsImported (n : NodeId) (node : GraphNode) (name : Name) (t : Thing) : Type 0 where
    pub p : ℕ
    pub fell : IsImportPlace g name p
    pub known : P n node p
    pub is : t ≡ import_at p

  abbrev pub AreImported : (NodeId → Thing) → Type 0
  AreImported at = (n : NodeId) (node : GraphNode) (name : Name) → node_at g n ≡ Some node → node.kind ≡ graph.import name → IsImported n node name (at n)

-- where an instantiation is among those of an order
pub place_of : (g : Graph) (order done rest : List NodeId) (n : NodeId) (node : GraphNode) → order ≡ done ++ n ∷ rest → node_at g n ≡ Some node → node.kind ≡ graph.instantiation
    → slice_get (instantiations g order) (length (instantiations g done)) ≡ Some n
place_of g order done rest n node e there is =
    let test : NodeId → Bool = node_is g (λ x. is_instantiation x.kind) in
    let passes : test n ≡ true = ap (λ o. option_case o false (λ x. is_instantiation x.kind)) there ∙ ap is_instantiation is in
    ap (λ xs. slice_get (filter test xs) (length (filter test done))) e
    ∙ ap (λ xs. slice_get xs (length (filter test done))) (filter-append test done (n ∷ rest) ∙ ap (λ b. filter test done ++ cond b (n ∷ filter test rest) (filter test rest)) passes)
    ∙ slice_get-middle (filter test done) n (filter test rest)
