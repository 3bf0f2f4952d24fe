-- What is seen of the nodes, number by number.
use Rattle.std.proofs.Common.{◌≡◌, ℕ, zero, suc, ◌+◌, ◌≤◌, cond, List, [], ◌∷◌, ◌++◌, map, length, ap, ◌∙◌, sym, append_assoc, arith, Option, Some, None, MatchOption, is_some}
use Rattle.std.specs.Prelude.{IsSomeAnd}
use Rattle.std.specs.Borrow.{Bor}
use Rattle.std.specs.List.{flat_map, range_with_len}
use Rattle.std.proofs.lemmas.List.{append-nil}
use Rattle.slab.specs.Slab.{get}
use Rattle.wac_types_shapes.specs.declared.shapes.component.ItemKind.{ItemKind}
use Rattle.wac_edges.specs.declared.node.NodeId.{NodeId}
use Rattle.wac_edges.specs.Edge.{node_number}
use Rattle.wac_graph_model.specs.nodes.Asked.{asked_by}
use Rattle.wac_graph_model.specs.nodes.Graph as graph
use Rattle.wac_graph_model.specs.nodes.Graph.{Graph, GraphNode, node_at}
use Rattle.wac_graph_fields.specs.private.Fields.{Fields, graph_of}
use Rattle.wac_graph_fields.specs.private.ImportsLeft.{node_left}
use Rattle.wac_graph_fields.specs.private.EntriesLeft.{row_entry}
use Rattle.wac_graph_reader.proofs.lemmas.writing.AskingWalk.{first_entries}
use Rattle.wac_graph_reader.proofs.lemmas.writing.EncodingLemmas.{node_is}
use Rattle.wac_graph_reader.proofs.lemmas.writing.ImportRows.{by_numbers}
use Rattle.wac_graph_reader.specs.private.reading.Seen.{number_where_any, open_at, open_numbers}

-- the node is a definition
abbrev pub IsDefinition : Graph → NodeId → Type 0
IsDefinition g n = IsSomeAnd (node_at g n) (λ node. node.kind ≡ graph.definition)

-- where there is no node none is a definition
pub no_definition_there : (a : Fields) (n : NodeId) → get a.nodes n.0 ≡ None → IsDefinition (graph_of a) n → ⊥
no_definition_there a n none is = nothing (node_at (graph_of a) n) (node_is a n.0 None none) is where
  nothing : (o : Option GraphNode) → o ≡ None → IsSomeAnd o (λ node. node.kind ≡ graph.definition) → ⊥
  nothing None _ h = h
  nothing (Some x) e h = cc

-- a node is open where it has a first import that no argument satisfies
module _ (g : Graph) (n : ℕ) where
  abbrev FirstLeft : Option (ℕ × Bor (List ℕ) × ItemKind) → Type 0
  FirstLeft o = MatchOption o (node_left g n 0 (node_at g (node_number n)) ≡ []) (λ r. node_left g n 0 (node_at g (node_number n)) ≡ (r.1.now, r.2, None) ∷ node_left g n r.0 (node_at g (node_number n)))

  pub open_is : (o : Option (ℕ × Bor (List ℕ) × ItemKind)) → FirstLeft o → open_at g n ≡ cond (is_some o) (n ∷ []) []
  open_is None h = ap (number_where_any n) (first_entries g n (node_at g (node_number n)) ∙ ap (map (row_entry n)) h)
  open_is (Some r) h = ap (number_where_any n) (first_entries g n (node_at g (node_number n)) ∙ ap (map (row_entry n)) h)

-- one number more
range_more : (f : ℕ → List ℕ) (a n : ℕ) → flat_map f (range_with_len a (suc n)) ≡ flat_map f (range_with_len a n) ++ f (a + n)
range_more f a zero = let e : a ≡ a + 0 = omega arith in append-nil (f a) ∙ ap f e
range_more f a (suc n) =
    let e : (a + 1) + n ≡ a + suc n = omega arith in
    ap (λ es. f a ++ es) (range_more f (a + 1) n ∙ ap (λ k. flat_map f (range_with_len (a + 1) n) ++ f k) e) ∙ sym (append_assoc (f a) (flat_map f (range_with_len (a + 1) n)) (f (a + suc n)))

pub open_next : (g : Graph) (n : ℕ) (old new : List ℕ) → old ≡ flat_map (open_at g) (range_with_len 0 n) → new ≡ old ++ open_at g n → new ≡ flat_map (open_at g) (range_with_len 0 (n + 1))
open_next g n old new was added =
    let one : suc n ≡ n + 1 = omega arith in
    let last : n ≡ 0 + n = omega arith in
    added ∙ ap (λ xs. xs ++ open_at g n) was ∙ ap (λ k. flat_map (open_at g) (range_with_len 0 n) ++ open_at g k) last ∙ sym (range_more (open_at g) 0 n) ∙ ap (λ k. flat_map (open_at g) (range_with_len 0 k)) one

-- those of all numbers
module _ (a : Fields) (end : ℕ) (slots : length a.nodes.slots ≤ end) where
  pub all_open : open_numbers (graph_of a) ≡ flat_map (open_at (graph_of a)) (range_with_len 0 end)
  all_open = by_numbers a end slots (open_at (graph_of a)) (λ n none. ap (λ o. number_where_any n (asked_by (graph_of a) n o)) (node_is a n None none))
