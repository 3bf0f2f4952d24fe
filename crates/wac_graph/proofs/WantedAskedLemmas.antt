-- Where no node is an import, none asks as one, and where none is a definition either, and packages are defined, what nodes ask
-- for is what the graph asks for.
use Rattle.std.proofs.Common.{◌≡◌, ℕ, true, List, [], ◌∷◌, ◌++◌, None, Some, Option, refl, ap, ◌∙◌, subst, sym}
use Rattle.std.specs.Prelude.{IsSomeAnd}
use Rattle.std.specs.List.{flat_map}
use Rattle.std.specs.FinMap as finite
use Rattle.std.proofs.lemmas.List.{append-nil}
use Rattle.wac_types_shapes.specs.primitives.Name.{Name}
use Rattle.wac_edges.specs.declared.node.NodeId.{NodeId}
use Rattle.wac_edges.specs.Edge.{node_number}
use Rattle.wac_graph_model.specs.nodes.Asked.{asked_by, imported_by}
use Rattle.wac_graph_model.specs.nodes.Entries.{asked_entries, once, with_used}
use Rattle.wac_graph_model.specs.nodes.Graph as graph
use Rattle.wac_graph_model.specs.nodes.Graph.{Graph, GraphNode, Kind, node_at, IsImportOf}
use Rattle.wac_graph_fields.specs.private.EntriesLeft.{imported_at, all_imported_by}
use Rattle.wac_graph_model.specs.causes.TypeFaults.{wanted_by, wanted_at, wanted_entries}
use Rattle.wac_graph_reader.proofs.lemmas.writing.AskingWalk.{wanted_asked}

-- the node is a definition
abbrev pub IsDefinition : Graph → NodeId → Type 0
IsDefinition g n = IsSomeAnd (node_at g n) (λ node. node.kind ≡ graph.definition)

module _ (g : Graph) (no_import : (name : Name) (n : NodeId) → IsImportOf g name n → ⊥) where
  not_at : (n : ℕ) (o : Option GraphNode) → node_at g (node_number n) ≡ o → imported_by n o ≡ []
  not_at n None at = refl
  not_at n (Some node) at = by_kind node.kind refl where
    by_kind : (k : Kind) → node.kind ≡ k → imported_by n (Some node) ≡ []
    by_kind graph.instantiation e = rw e refl
    by_kind graph.alias e = rw e refl
    by_kind graph.definition e = rw e refl
    by_kind (graph.import name) e = absurd (no_import name (node_number n) (subst (λ o. IsSomeAnd o (λ x. x.kind ≡ graph.import name)) (sym at) e))

  none_of : (ns : List ℕ) → flat_map (imported_at g) ns ≡ []
  none_of [] = refl
  none_of (n ∷ ns) = (λ i. not_at n (node_at g (node_number n)) refl i ++ none_of ns i)

  pub none_imported : all_imported_by g ≡ []
  none_imported = none_of (finite.keys g.nodes)

module _ (g : Graph) (no_import : (name : Name) (n : NodeId) → IsImportOf g name n → ⊥) (no_definition : (n : NodeId) → IsDefinition g n → ⊥) where
  same_at : (n : ℕ) (o : Option GraphNode) → node_at g (node_number n) ≡ o → wanted_by g true n o ≡ asked_by g n o
  same_at n None at = refl
  same_at n (Some node) at = by_kind node.kind refl where
    by_kind : (k : Kind) → node.kind ≡ k → wanted_by g true n (Some node) ≡ asked_by g n (Some node)
    by_kind graph.instantiation e = wanted_asked g true n (Some node) node refl e ∙ append-nil (asked_by g n (Some node))
    by_kind graph.alias e = rw e refl
    by_kind graph.definition e = absurd (no_definition (node_number n) (subst (λ o. IsSomeAnd o (λ x. x.kind ≡ graph.definition)) (sym at) e))
    by_kind (graph.import name) e = absurd (no_import name (node_number n) (subst (λ o. IsSomeAnd o (λ x. x.kind ≡ graph.import name)) (sym at) e))

  all_same : (ns : List ℕ) → flat_map (wanted_at g true) ns ≡ flat_map (λ n. asked_by g n (node_at g (node_number n))) ns
  all_same [] = refl
  all_same (n ∷ ns) = (λ i. same_at n (node_at g (node_number n)) refl i ++ all_same ns i)

  pub wanted_is_asked : asked_entries g ≡ wanted_entries g true
  wanted_is_asked =
      let keys = finite.keys g.nodes in
      ap (λ es. once (flat_map (with_used g.types) es))
      (ap (λ es. flat_map (λ n. asked_by g n (node_at g (node_number n))) keys ++ es) (none_imported g no_import) ∙ append-nil (flat_map (λ n. asked_by g n (node_at g (node_number n))) keys) ∙ sym (all_same keys))
