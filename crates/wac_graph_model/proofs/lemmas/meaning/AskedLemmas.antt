-- Where nothing is asked for there are no imports, and where every argument is set nothing is asked for.
use Rattle.std.proofs.Common.{◌≡◌, ℕ, suc, ◌+◌, ◌<◌, Bool, true, false, ◌||◌, List, [], ◌∷◌, length, refl, ap, ◌∙◌, sym, subst, arith, Option, Some, None, ◌⊎◌, inl, inr}
use Rattle.std.specs.List.{list_any, flat_map}
use Rattle.std.specs.FinSet as set
use Rattle.std.specs.FinMap as finite
use Rattle.std.specs.Ordering.{eq_by_cmp}
use Rattle.wac_types_shapes.specs.primitives.Name.{Name}
use Rattle.wac_types_shapes.specs.declared.shapes.component.ItemKind.{ItemKind}
use Rattle.wac_merge_classes.specs.entries.Classes.{by_names}
use Rattle.wac_edges.specs.Arranged as arranged
use Rattle.wac_merge_classes.specs.terms.ClassOrder as classes
use Rattle.wac_edges.specs.declared.edges.Edge.{Edge}
use Rattle.wac_edges.specs.declared.node.NodeId.{NodeId}
use Rattle.wac_edges.specs.Edge.{edge_cmp, argument_edge, node_number}
use Rattle.wac_graph_model.specs.nodes.Graph as graph
use Rattle.wac_graph_model.specs.nodes.Graph.{Graph, GraphNode, node_at, imports_of, IsSatisfied}
use Rattle.wac_graph_model.specs.nodes.Asked.{is_argument, is_satisfied, unsatisfied, asked_by, imported_by, asked}
use Rattle.wac_graph_model.specs.nodes.Entries.{with_used, once, to_merge}
use Rattle.wac_graph_model.specs.nodes.OuterImports.{AreOuterImports}
use Rattle.wac_edges.proofs.EdgeLemmas.{exact_edges}
use Rattle.wac_edges.proofs.WrittenOrder.{eqb_same}
use Rattle.wac_graph_model.proofs.lemmas.meaning.ThingLemmas.{IsPlain}

-- where nothing is asked for there are no imports
pub no_imports : (g : Graph) → asked g ≡ [] → AreOuterImports g []
no_imports g none = record {
  order = [];
  written = subst (λ es. classes.IsWrittenOrder by_names g.types (to_merge (once (flat_map (with_used g.types) es))) []) (sym none) (arranged.done []);
  count = refl;
  each = λ p k class e at _ _. absurd (nothing at);
} where
  nothing : {k : ℕ} → None ≡ Some k → ⊥
  nothing e = cc

-- where every argument is set nothing is asked
module _ (g : Graph) where
  any_more : (p q : Edge → Bool) → ((e : Edge) → p e ≡ true → q e ≡ true) → (es : List Edge) → list_any p es ≡ true → list_any q es ≡ true
  any_more p q f [] h = h
  any_more p q f (e ∷ es) h = split (p e) refl h (any_more p q f es) where
    split : (b : Bool) → p e ≡ b → (b || list_any p es) ≡ true → (list_any p es ≡ true → list_any q es ≡ true) → (q e || list_any q es) ≡ true
    split true is _ _ = rw (f e is) refl
    split false _ later more = rw (more later) (or_yes (q e)) where
      or_yes : (b : Bool) → (b || true) ≡ true
      or_yes true = refl
      or_yes false = refl

  pub satisfied : (n : NodeId) (i : ℕ) → IsSatisfied g n i → is_satisfied g n.0 i ≡ true
  satisfied n i (node, stands) =
      any_more (eq_by_cmp edge_cmp (argument_edge node n i)) (is_argument n.0 i)
      (λ e same. let is : argument_edge node n i ≡ e = exact_edges (argument_edge node n i) e same in ap (is_argument n.0 i) (sym is) ∙ rw (eqb_same n.0) (eqb_same i))
      (set.items g.edges)
      (sym (set.contains-items g.edges (argument_edge node n i)) ∙ stands)

  none_unsatisfied : (n : NodeId) (i : ℕ) (imports : List (Name × ItemKind)) → ((j : ℕ) → j < length imports → IsSatisfied g n (i + j)) → unsatisfied g n.0 i imports ≡ []
  none_unsatisfied n i [] all = refl
  none_unsatisfied n i (e ∷ imports) all =
      let here : is_satisfied g n.0 i ≡ true = satisfied n i (let z : i + 0 ≡ i = omega arith in subst (λ k. IsSatisfied g n k) z (all 0 (omega arith))) in
      rw here (none_unsatisfied n (suc i) imports (λ j small. let z : i + suc j ≡ suc i + j = omega arith in subst (λ k. IsSatisfied g n k) z (all (suc j) (omega arith))))

  flat_map-none : {A B : Type 0} (f : A → List B) (xs : List A) → ((x : A) → f x ≡ []) → flat_map f xs ≡ []
  flat_map-none f [] h = refl
  flat_map-none f (x ∷ xs) h = rw (h x) (flat_map-none f xs h)

  abbrev pub AllSet : Type 0
  AllSet = (n : NodeId) (node : GraphNode) → node_at g n ≡ Some node → node.kind ≡ graph.instantiation → (i : ℕ) → i < length (imports_of g node) → IsSatisfied g n i

  pub asked_none : IsPlain g → AllSet → asked g ≡ []
  asked_none plain all =
      rw (flat_map-none (λ n. asked_by g n (node_at g (node_number n))) (finite.keys g.nodes) (λ n. by_node (node_number n) (node_at g (node_number n)) refl))
      (flat_map-none (λ n. imported_by n (node_at g (node_number n))) (finite.keys g.nodes) (λ n. imported (node_number n) (node_at g (node_number n)) refl)) where
        by_node : (n : NodeId) (o : Option GraphNode) → node_at g n ≡ o → asked_by g n.0 o ≡ []
        by_node n None there = refl
        by_node n (Some node) there = split (plain n node there) where
          split : (node.kind ≡ graph.instantiation) ⊎ (node.kind ≡ graph.alias) → asked_by g n.0 (Some node) ≡ []
          split (inl is) = rw is (none_unsatisfied n 0 (imports_of g node) (λ j small. let z : j ≡ 0 + j = omega arith in subst (λ k. IsSatisfied g n k) z (all n node there is j small)))
          split (inr is) = rw is refl

        imported : (n : NodeId) (o : Option GraphNode) → node_at g n ≡ o → imported_by n.0 o ≡ []
        imported n None there = refl
        imported n (Some node) there = split (plain n node there) where
          split : (node.kind ≡ graph.instantiation) ⊎ (node.kind ≡ graph.alias) → imported_by n.0 (Some node) ≡ []
          split (inl is) = rw is refl
          split (inr is) = rw is refl
