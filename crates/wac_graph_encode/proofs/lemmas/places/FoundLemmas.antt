-- What stands where the imports of a merge are placed: arguments that were not set, and import nodes.
use Rattle.std.proofs.Common.{◌≡◌, ℕ, ◌+◌, ◌<◌, List, [], ◌∷◌, ◌++◌, length, refl, ap, ◌∙◌, sym, subst, arith, Option, Some, None, IfSome, IsSome, IsSomeAnd, is_some}
use Rattle.std.specs.Prelude.{slice_get}
use Rattle.wac_types_shapes.specs.primitives.Name.{Name}
use Rattle.wac_types_shapes.specs.declared.shapes.component.ItemKind.{ItemKind}
use Rattle.wac_binary.specs.declared.sorts.Sort.{Sort}
use Rattle.wac_binary.specs.Indexes.{indexes}
use Rattle.wac_edges.specs.declared.node.NodeId.{NodeId}
use Rattle.wac_graph_model.specs.nodes.Graph as graph
use Rattle.wac_edges.specs.Edge.{node_number}
use Rattle.wac_graph_model.specs.nodes.Graph.{Graph, GraphNode, node_at, imports_of, IsUnsatisfied, IsImportOf}
use Rattle.wac_graph_model.specs.meaning.Means.{sort_of_kind}
use Rattle.wac_graph_model.specs.private.meaning.Encoding.{index_in}
use Rattle.wac_graph_model.specs.private.meaning.Writing.{IsArgumentItem, of_import}
use Rattle.wac_merge_classes.specs.entries.Classes.{Entry, ClassLaws}
use Rattle.wac_graph_model.specs.nodes.OuterImports.{outer_entries}
use Rattle.wac_graph_model.specs.private.meaning.MergedImports.{IsFoundAt}
use Rattle.wac_graph_model.specs.nodes.Imports.{node_rows}
use Rattle.std.proofs.lemmas.List.{get_or_append_left}
use Rattle.std.proofs.Math.Seq.{get_or-append_seam}
use Rattle.wac_graph_model.proofs.lemmas.meaning.AskedMembers.{IsIn, import_asked, unset_asked}
use Rattle.wac_graph_model.proofs.lemmas.meaning.MergeLemmas.{OrderHasClasses, placed_argument}
use Rattle.wac_graph_encode.specs.declared.places.places.ImportPlaces.{ImportPlaces}
use Rattle.wac_graph_encode.specs.private.places.Places.{IsImportedName, IsPlaceOf, ArePlaced, AreFound}
use Rattle.wac_graph_encode.proofs.lemmas.places.OuterLemmas.{asked_imported, asked_sort, found_at}
use Rattle.wac_graph_encode.proofs.lemmas.encoding.NodeLemmas.{at_asked}
use Rattle.wac_graph_reader.proofs.lemmas.writing.ImportRows.{unsatisfied_false, row_node}
use Rattle.wac_graph_model.proofs.lemmas.nodes.NodeLemmas.{there}
use Rattle.wac_graph_reader.proofs.lemmas.writing.EncodingLemmas as nodes

-- one that was not
module _ (laws : ClassLaws) (has_classes : OrderHasClasses) (g : Graph) (p : ImportPlaces) (placed : ArePlaced g p) (n : NodeId) (i : ℕ) (name : Name)
    (asked : IsSomeAnd (node_at g n) (λ node. (node.kind ≡ graph.instantiation) × IsSomeAnd (slice_get (imports_of g node) i) (λ e. e.0 ≡ name))) (unset : IsUnsatisfied g n i) where
  asked_entry : (k : ItemKind) × IsIn (outer_entries g) (record { name = name; kind = k })
  asked_entry = by_node (node_at g n) refl asked where
    by_entry : (node : GraphNode) → node_at g n ≡ Some node → node.kind ≡ graph.instantiation → (e : Option (Name × ItemKind)) → slice_get (imports_of g node) i ≡ e → IsSomeAnd e (λ e. e.0 ≡ name) → (k : ItemKind) × IsIn (outer_entries g) (record { name = name; kind = k })
    by_entry node there is None at h = absurd h
    by_entry node there is (Some e) at h = (
      e.1,
      unset_asked g n node there is i name e.1 (at ∙ ap (λ (m : Name). let entry : Name × ItemKind = (m, e.1) in Some entry) h) (unsatisfied_false g n i unset),
    )

    by_node : (o : Option GraphNode) → node_at g n ≡ o → IsSomeAnd o (λ node. (node.kind ≡ graph.instantiation) × IsSomeAnd (slice_get (imports_of g node) i) (λ e. e.0 ≡ name)) → (k : ItemKind) × IsIn (outer_entries g) (record { name = name; kind = k })
    by_node None there h = absurd h
    by_node (Some node) there h = by_entry node there h.0 (slice_get (imports_of g node) i) refl h.1

  pub unset_imported : IsImportedName p.merge name
  unset_imported = let (k, within) = asked_entry in asked_imported laws has_classes g p.merge placed.merged (record { name = name; kind = k }) within

  pub unset_argument : (index : NodeId → ℕ) (place : Sort × ℕ) → IsPlaceOf p.merge p.places.items name place
      → IfSome (node_at g n) (λ node. IfSome (slice_get (imports_of g node) i) (λ e. IsArgumentItem g p.places.items index n i e (name, place.0, place.1)))
  unset_argument index place at =
      at_asked g n i name (λ e. IsArgumentItem g p.places.items index n i e (name, place.0, place.1)) asked
      (λ node k node_there is here.
      let x : Entry = record { name = name; kind = k } in
      let within = unset_asked g n node node_there is i name k here (unsatisfied_false g n i unset) in
      let found = found_at laws has_classes g p.merge placed.merged x within p.places.items place at in
      let sorted : place.0 ≡ sort_of_kind k = placed.sorts found.p found.entry (place.0, place.1) found.there found.placed ∙ asked_sort laws has_classes g p.merge placed.merged x within found.p found.entry found.there found.named in
      of_import refl unset sorted (placed_argument laws has_classes g (p.merge).merge ((placed.merged).whole).merge p.places.items name place.0 place.1 found))

-- ---- import nodes
module _ (laws : ClassLaws) (has_classes : OrderHasClasses) (g : Graph) (p : ImportPlaces) (placed : ArePlaced g p) where
  pub node_imported : (n : NodeId) (node : GraphNode) (name : Name) → node_at g n ≡ Some node → node.kind ≡ graph.import name → IsImportedName p.merge name
  node_imported n node name there is = asked_imported laws has_classes g p.merge placed.merged (record { name = name; kind = node.item_kind }) (import_asked g n node name there is)

  -- the place of an import node's name is of the node's sort
  pub node_placed : (n : NodeId) (node : GraphNode) (name : Name) → node_at g n ≡ Some node → node.kind ≡ graph.import name → (place : Sort × ℕ) → IsPlaceOf p.merge p.places.items name place → IsFoundAt g (p.merge).merge p.places.items name (sort_of_kind node.item_kind) place.1
  node_placed n node name there is place at =
      let x : Entry = record { name = name; kind = node.item_kind } in
      let within = import_asked g n node name there is in
      let found = found_at laws has_classes g p.merge placed.merged x within p.places.items place at in
      let sorted : place.0 ≡ sort_of_kind node.item_kind = placed.sorts found.p found.entry (place.0, place.1) found.there found.placed ∙ asked_sort laws has_classes g p.merge placed.merged x within found.p found.entry found.there found.named in
      subst (λ t. IsFoundAt g (p.merge).merge p.places.items name t place.1) sorted found

  pub node_found : (n : ℕ) (name : Name) (k : ItemKind) → node_rows g n ≡ (name, k, Some (node_number n)) ∷ [] → (place : Sort × ℕ) → IsPlaceOf p.merge p.places.items name place
      → IfSome (node_at g (node_number n)) (λ node. (text : Name) → node.kind ≡ graph.import text → IsFoundAt g (p.merge).merge p.places.items text (sort_of_kind node.item_kind) place.1)
  node_found n name k rows place at =
      let (node, there, is) = row_node g n name k rows in
      subst (λ o. IfSome o (λ node. (text : Name) → node.kind ≡ graph.import text → IsFoundAt g (p.merge).merge p.places.items text (sort_of_kind node.item_kind) place.1)) (sym there)
      (λ text kind. let same : name ≡ text = one_import (sym is ∙ kind) in subst (λ t. IsFoundAt g (p.merge).merge p.places.items t (sort_of_kind node.item_kind) place.1) same (node_placed (node_number n) node name there is place at)) where
        one_import : {x y : Name} → graph.import x ≡ graph.import y → x ≡ y
        one_import h = cc

-- so far each import node has its index
abbrev pub AreFoundBelow : Graph → ImportPlaces → ℕ → List ℕ → Type 0
AreFoundBelow g p k indexes = (m : NodeId) → m.0 < k → IfSome (node_at g m) (λ node. (name : Name) → node.kind ≡ graph.import name → IsFoundAt g (p.merge).merge p.places.items name (sort_of_kind node.item_kind) (index_in indexes m))

pub found_next : (g : Graph) (p : ImportPlaces) (k : ℕ) (indexes : List ℕ) (i : ℕ) → length indexes ≡ k → AreFoundBelow g p k indexes
    → IfSome (node_at g (node_number k)) (λ node. (name : Name) → node.kind ≡ graph.import name → IsFoundAt g (p.merge).merge p.places.items name (sort_of_kind node.item_kind) i) → AreFoundBelow g p (k + 1) (indexes ++ i ∷ [])
found_next g p k indexes i long before now m small = nodes.by_lt m.0 k
    (λ below. subst (λ j. IfSome (node_at g m) (λ node. (name : Name) → node.kind ≡ graph.import name → IsFoundAt g (p.merge).merge p.places.items name (sort_of_kind node.item_kind) j)) (sym (get_or_append_left indexes (i ∷ []) 0 m.0 (omega (arith, long, below)))) (before m below))
    (λ above. let here : k ≡ m.0 = omega (arith, above, small) in
    let at : index_in (indexes ++ i ∷ []) m ≡ i = ap (λ q. index_in (indexes ++ i ∷ []) (node_number q)) (sym here ∙ sym long) ∙ get_or-append_seam indexes i [] 0 in
    subst (λ j. IfSome (node_at g m) (λ node. (name : Name) → node.kind ≡ graph.import name → IsFoundAt g (p.merge).merge p.places.items name (sort_of_kind node.item_kind) j)) (sym at)
    (subst (λ q. IfSome (node_at g (node_number q)) (λ node. (name : Name) → node.kind ≡ graph.import name → IsFoundAt g (p.merge).merge p.places.items name (sort_of_kind node.item_kind) i)) here now))

pub found_all : (g : Graph) (p : ImportPlaces) (k : ℕ) (indexes : List ℕ) → AreFoundBelow g p k indexes → ((n : NodeId) → IsSome (node_at g n) → n.0 < k) → AreFound g p indexes
found_all g p k indexes below room n node name there is =
    subst (λ o. IfSome o (λ node. (name : Name) → node.kind ≡ graph.import name → IsFoundAt g (p.merge).merge p.places.items name (sort_of_kind node.item_kind) (index_in indexes n))) there (below n (room n (ap is_some there))) name is

-- where no node is an import, each has the index of its import, whatever the indexes are
pub none_found : (g : Graph) → ((name : Name) (n : NodeId) → IsImportOf g name n → ⊥) → (p : ImportPlaces) (indexes : List ℕ) → AreFound g p indexes
none_found g none p indexes n node name at is = absurd (none name n (subst (λ o. IsSomeAnd o (λ x. x.kind ≡ graph.import name)) (sym at) is))
