-- The nodes, packages and arguments that are listed are those of the graph.
use Rattle.std.proofs.Common.{◌≡◌, ℕ, zero, suc, ◌+◌, ◌≤◌, Bool, true, false, cond, ◌||◌, List, [], ◌∷◌, ◌++◌, map, length, drop, refl, ap, subst, ◌∙◌, sym, arith, inl, inr, Option, Some, None}
use Rattle.std.specs.Prelude.{slice_get, find}
use Rattle.std.specs.Borrow.{Bor}
use Rattle.std.specs.Option.{option_map}
use Rattle.std.specs.List.{list_any, Contains, AllByRecursion}
use Rattle.std.specs.Ordering.{eq_by_cmp, is_eq}
use Rattle.std.specs.Cmp.{tied_itself}
use Rattle.std.specs.FinSet as set
use Rattle.std.proofs.lemmas.List.{drop_all}
use Rattle.std.proofs.lemmas.List.Folds.{list_any_at}
use Rattle.slab.specs.Slab.{get, entries, entries_from}
use Rattle.slab.proofs.SlabLemmas.{Contains-entries}
use Rattle.wac_types_shapes.specs.primitives.Name.{Name}
use Rattle.wac_types_shapes.specs.declared.shapes.component.ItemKind.{ItemKind}
use Rattle.wac_edges.specs.declared.edges.Edge.{Edge}
use Rattle.wac_edges.specs.declared.node.NodeId.{NodeId}
use Rattle.wac_edges.specs.Edge.{edge_cmp, argument_edge, node_number}
use Rattle.wac_edges.proofs.EdgeLemmas.{edge_cmp_total}
use Rattle.wac_graph_model.specs.declared.nodes.node.Node.{Node}
use Rattle.wac_graph_model.specs.nodes.Graph as graph
use Rattle.wac_graph_model.specs.nodes.Graph.{Graph, GraphNode, Kind, imports_of, IsArgumentOf, IsUnsatisfied}
use Rattle.wac_graph_model.specs.nodes.Nodes.{node_of, kind_of}
use Rattle.wac_graph_model.specs.nodes.Gives.{GivesNode}
use Rattle.wac_graph_model.specs.nodes.Asked.{is_argument}
use Rattle.wac_graph_model.proofs.lemmas.meaning.AskedLemmas.{satisfied as set_by_edge}
use Rattle.wac_graph_fields.specs.private.Fields.{Fields, graph_of, Invariant}
use Rattle.wac_graph.specs.Listed.{AreNodes, node_ids, AreSet, AreArguments, instance_imports, imports_by}
use Rattle.wac_graph.specs.private.Left.{with_id, id_of, argument_at, set_row, set_rows, set_from, listed_in, arguments_left}
use Rattle.wac_graph_reader.proofs.lemmas.writing.EncodingLemmas.{gives_node, node_is}
use Rattle.wac_graph_reader.proofs.lemmas.writing.ImportRows.{at_drop, edge_is, entries_of, entries_are}

-- the first edge that passes a test
found_in : (p : Edge → Bool) (es : List Edge) (e : Edge) → find p es ≡ Some e → Contains es e × (p e ≡ true)
found_in p [] e h = cc
found_in p (x ∷ es) e h = split (p x) refl h (found_in p es e) where
  split : (t : Bool) → p x ≡ t → cond t (Some x) (find p es) ≡ Some e → (find p es ≡ Some e → Contains es e × (p e ≡ true)) → Contains (x ∷ es) e × (p e ≡ true)
  split true here is _ = let same : x ≡ e = cc in ((zero, omega arith, same), subst (λ y. p y ≡ true) same here)
  split false _ later more = let (there, passes) = more later in ((suc there.0, omega arith, there.2), passes)

missed : (p : Edge → Bool) (es : List Edge) → find p es ≡ None → list_any p es ≡ false
missed p [] h = refl
missed p (x ∷ es) h = split (p x) h (missed p es) where
  split : (t : Bool) → cond t (Some x) (find p es) ≡ None → (find p es ≡ None → list_any p es ≡ false) → (t || list_any p es) ≡ false
  split true is _ = cc
  split false later more = more later

module _ (g : Graph) (id : NodeId) where
  -- the node that is found is the argument
  is_set : (i : ℕ) (node : NodeId) → argument_at g id i ≡ Some node → IsArgumentOf g id i node
  is_set i node h = by_edge (find (is_argument id.0 i) (set.items g.edges)) refl h where
    by_edge : (o : Option Edge) → find (is_argument id.0 i) (set.items g.edges) ≡ o → option_map (λ e. e.source) o ≡ Some node → IsArgumentOf g id i node
    by_edge None _ is = cc
    by_edge (Some e) first is =
        let (there, passes) = found_in (is_argument id.0 i) (set.items g.edges) e first in
        let inside : set.contains g.edges e ≡ true = set.contains-items g.edges e ∙ list_any_at (eq_by_cmp edge_cmp e) (set.items g.edges) there.0 e there.1 (ap (λ (x : Edge). eq_by_cmp edge_cmp e x) there.2 ∙ ap is_eq (tied_itself edge_cmp_total e)) in
        let same : e.source ≡ node = cc in
        subst (λ n. IsArgumentOf g id i n) same (ap (set.contains g.edges) (sym (edge_is id.0 i e passes)) ∙ inside)

  -- and none is, where none is found
  not_set : (i : ℕ) → argument_at g id i ≡ None → IsUnsatisfied g id i
  not_set i h node stands = by_edge (find (is_argument id.0 i) (set.items g.edges)) refl h where
    clash : (b : Bool) → b ≡ true → b ≡ false → ⊥
    clash true _ q = cc
    clash false q _ = cc

    by_edge : (o : Option Edge) → find (is_argument id.0 i) (set.items g.edges) ≡ o → option_map (λ e. e.source) o ≡ None → ⊥
    by_edge None first _ = clash (list_any (is_argument id.0 i) (set.items g.edges)) (set_by_edge g id i (node, stands)) (missed (is_argument id.0 i) (set.items g.edges) first)
    by_edge (Some e) _ is = cc

  rows_are : (i : ℕ) (imports : List (Name × ItemKind)) → AreSet g id i imports (set_rows g id i imports)
  rows_are i [] = refl
  rows_are i (e ∷ imports) = by_argument (argument_at g id i) refl (rows_are (suc i) imports) where
    by_argument : (o : Option NodeId) → argument_at g id i ≡ o → AreSet g id (suc i) imports (set_rows g id (suc i) imports) → AreSet g id i (e ∷ imports) (set_row e o ++ set_rows g id (suc i) imports)
    by_argument None none rest = inl (not_set i none, rest)
    by_argument (Some node) is rest = inr (node, set_rows g id (suc i) imports, refl, is_set i node is, rest)

  pub arguments_are : (o : Option (Bor (List (Name × ItemKind)))) → listed_in o ≡ instance_imports g id → AreArguments g id (arguments_left g id o 0)
  arguments_are None none = subst (λ imports. AreSet g id 0 imports []) none refl
  arguments_are (Some imports) are = subst (λ xs. AreSet g id 0 xs (set_rows g id 0 imports.now)) are (rows_are 0 imports.now)

  at_suc : (imports : List (Name × ItemKind)) (i : ℕ) → set_from g id imports (suc i) ≡ set_from g id imports (i + 1)
  at_suc imports i = let e : suc i ≡ i + 1 = omega arith in ap (set_from g id imports) e

  pub passed : (imports : List (Name × ItemKind)) (i : ℕ) (e : Name × ItemKind) → slice_get imports i ≡ Some e → argument_at g id i ≡ None → set_from g id imports i ≡ set_from g id imports (i + 1)
  passed imports i e at none = ap (set_rows g id i) (at_drop imports i e at) ∙ ap (λ o. set_row e o ++ set_rows g id (suc i) (drop (suc i) imports)) none ∙ at_suc imports i

  pub taken : (imports : List (Name × ItemKind)) (i : ℕ) (e : Name × ItemKind) (name : Name) (node : NodeId) → slice_get imports i ≡ Some e → option_map (λ (x : Name × ItemKind). x.0) (slice_get imports i) ≡ Some name → argument_at g id i ≡ Some node
      → set_from g id imports i ≡ (name, node) ∷ set_from g id imports (i + 1)
  taken imports i e name node at named found =
      let same : e.0 ≡ name = (let is : Some e.0 ≡ Some name = sym (ap (option_map (λ (x : Name × ItemKind). x.0)) at) ∙ named in cc) in
      ap (set_rows g id i) (at_drop imports i e at) ∙ ap (λ o. set_row e o ++ set_rows g id (suc i) (drop (suc i) imports)) found
      ∙ ap (λ (n : Name). (n, node) ∷ set_rows g id (suc i) (drop (suc i) imports)) same
      ∙ ap (λ rest. (name, node) ∷ rest) (at_suc imports i)

  pub none_from : (imports : List (Name × ItemKind)) (i : ℕ) → length imports ≤ i → set_from g id imports i ≡ []
  none_from imports i past = ap (set_rows g id i) (drop_all i imports past)

-- what is said of an argument by its edge
module _ (a : Fields) (v : Invariant a) (id : NodeId) (i : ℕ) where
  pub argument_is : (node : NodeId) → IsArgumentOf (graph_of a) id i node → argument_at (graph_of a) id i ≡ Some node
  argument_is node stands = by_answer (argument_at (graph_of a) id i) refl where
    by_answer : (o : Option NodeId) → argument_at (graph_of a) id i ≡ o → o ≡ Some node
    by_answer None none = absurd (not_set (graph_of a) id i none node stands)
    by_answer (Some other) is = ap Some (v.sound.one_argument id i other node (is_set (graph_of a) id i other is) stands)

  pub no_argument : ((node : NodeId) → set.contains a.edges (argument_edge node id i) ≡ false) → argument_at (graph_of a) id i ≡ None
  no_argument absent = by_answer (argument_at (graph_of a) id i) refl where
    clash : (b : Bool) → b ≡ true → b ≡ false → ⊥
    clash true _ q = cc
    clash false q _ = cc

    by_answer : (o : Option NodeId) → argument_at (graph_of a) id i ≡ o → o ≡ None
    by_answer None _ = refl
    by_answer (Some node) is = absurd (clash (set.contains a.edges (argument_edge node id i)) (is_set (graph_of a) id i node is) (absent node))

-- what a node imports
module _ (a : Fields) (id : NodeId) where
  by_kind : (node : GraphNode) (k : Kind) → node.kind ≡ k → (node.kind ≡ graph.instantiation → ⊥) → imports_by (graph_of a) (Some node) ≡ []
  by_kind node graph.instantiation is other = absurd (other is)
  by_kind node graph.definition is other = rw is refl
  by_kind node (graph.import name) is other = rw is refl
  by_kind node graph.alias is other = rw is refl

  pub nothing_there : get a.nodes id.0 ≡ None → instance_imports (graph_of a) id ≡ []
  nothing_there none = ap (imports_by (graph_of a)) (node_is a id.0 None none)

  module _ (node : Node) (had : get a.nodes id.0 ≡ Some node) where
    pub not_imported : (kind_of node.kind ≡ graph.instantiation → ⊥) → instance_imports (graph_of a) id ≡ []
    not_imported other = ap (imports_by (graph_of a)) (node_is a id.0 (Some node) had) ∙ by_kind (node_of node) (kind_of node.kind) refl other

    pub imports_are : (imports : List (Name × ItemKind)) → kind_of node.kind ≡ graph.instantiation → imports ≡ imports_of (graph_of a) (node_of node) → imports ≡ instance_imports (graph_of a) id
    imports_are imports is are = are ∙ sym (ap (imports_by (graph_of a)) (node_is a id.0 (Some node) had) ∙ of_instance (node_of node) is) where
      of_instance : (n : GraphNode) → n.kind ≡ graph.instantiation → imports_by (graph_of a) (Some n) ≡ imports_of (graph_of a) n
      of_instance n e = rw e refl

-- the nodes with their ids
module _ (a : Fields) where
  numbers : (slots : List (Option Node)) (j : ℕ) → map (λ (e : ℕ × Node). node_number e.0) (entries_from j slots) ≡ map node_number (map (λ (e : ℕ × GraphNode). e.0) (entries_of j slots))
  numbers [] j = refl
  numbers (None ∷ slots) j = numbers slots (j + 1)
  numbers (Some x ∷ slots) j = ap (λ rest. node_number j ∷ rest) (numbers slots (j + 1))

  ids_of : (es : List (ℕ × Node)) → map (λ (r : NodeId × Node). r.0) (map with_id es) ≡ map id_of es
  ids_of [] = refl
  ids_of (e ∷ es) = ap (λ rest. node_number e.0 ∷ rest) (ids_of es)

  pub ids_are : map id_of (entries a.nodes) ≡ node_ids (graph_of a)
  ids_are = numbers a.nodes.slots 0 ∙ ap (λ es. map node_number (map (λ (e : ℕ × GraphNode). e.0) es)) (sym (entries_are a.nodes.slots 0))

  module _ (v : Invariant a) where
    row_is : (es : List (ℕ × Node)) → ((e : ℕ × Node) → Contains es e → get a.nodes e.0 ≡ Some e.1) → AllByRecursion (λ r. GivesNode (graph_of a) r.0 r.1) (map with_id es)
    row_is [] had = tt
    row_is (e ∷ es) had = (gives_node a v (node_number e.0) e.1 (had e (zero, omega arith, refl)), row_is es (λ x there. had x (suc there.0, omega (arith, there.1), there.2)))

    pub nodes_are : AreNodes (graph_of a) (map with_id (entries a.nodes))
    nodes_are = record {
      ids = ids_of (entries a.nodes) ∙ ids_are;
      given = row_is (entries a.nodes) (λ e there. (Contains-entries a.nodes e.0 e.1).0 there);
    }
