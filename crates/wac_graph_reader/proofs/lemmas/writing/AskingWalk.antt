-- The walk over a graph's imports, number by number.
use Rattle.std.proofs.Common.{◌≡◌, ℕ, zero, suc, ◌+◌, ◌≤◌, Bool, true, false, cond, List, [], ◌∷◌, ◌++◌, map, length, refl, ap, ◌∙◌, sym, subst, append_assoc, arith, Option, Some, None}
use Rattle.std.specs.Prelude.{slice_get}
use Rattle.std.specs.List.{AllByRecursion, flat_map, range_with_len}
use Rattle.std.specs.FinMap as finite
use Rattle.std.proofs.lemmas.List.{append-nil}
use Rattle.wac_types_shapes.specs.primitives.Name.{Name, option_case}
use Rattle.wac_types_collection.specs.collection.Collection.{Collection, IsWellFormed, item_at, holds_type}
use Rattle.wac_types_shapes.specs.shapes.Kinds.{kind_type}
use Rattle.wac_types_collection.specs.collection.Package.{PackageParts}
use Rattle.wac_types_shapes.specs.declared.shapes.component.World.{World}
use Rattle.wac_types_shapes.specs.declared.shapes.component.ItemKind.{ItemKind}
use Rattle.wac_edges.specs.declared.node.NodeId.{NodeId}
use Rattle.wac_graph_model.specs.nodes.Graph as graph
use Rattle.wac_edges.specs.Edge.{node_number}
use Rattle.wac_graph_model.specs.nodes.Graph.{Graph, GraphNode, Kind, node_at, imports_of, package_of}
use Rattle.wac_graph_model.specs.nodes.Asked.{Entry, is_satisfied, unsatisfied, asked_by, imported_by, asked}
use Rattle.wac_graph_model.specs.nodes.Sound.{IsSound}
use Rattle.wac_graph_model.specs.nodes.Imports.{node_row, node_rows}
use Rattle.wac_graph_fields.specs.private.ImportsLeft.{unset, row_of, node_left}
use Rattle.wac_graph_model.specs.nodes.Entries.{with_used}
use Rattle.wac_graph_fields.specs.private.EntriesLeft.{IsHeldKind, AsksAlike, row_entry, all_with_used, all_asked_by, all_imported_by, asked_at, imported_at}
use Rattle.wac_graph_fields.specs.private.Fields.{Fields, graph_of}
use Rattle.wac_graph_fields.proofs.EntryLists.{stands_itself, stands_through, stands_more}
use Rattle.wac_graph_model.proofs.lemmas.nodes.HeldLemmas.{imports_held}
use Rattle.wac_graph_model.specs.causes.TypeFaults.{imported_package, wanted_by, wanted_at}
use Rattle.wac_graph_reader.proofs.lemmas.writing.EncodingLemmas.{node_is}
use Rattle.wac_graph_reader.proofs.lemmas.writing.ImportRows.{by_numbers}

-- ---- lists
flat_joined : {A B : Type 0} (f : A → List B) (xs ys : List A) → flat_map f (xs ++ ys) ≡ flat_map f xs ++ flat_map f ys
flat_joined f [] ys = refl
flat_joined f (x ∷ xs) ys = ap (λ es. f x ++ es) (flat_joined f xs ys) ∙ sym (append_assoc (f x) (flat_map f xs) (flat_map f ys))

range_more : {B : Type 0} (f : ℕ → List B) (a n : ℕ) → flat_map f (range_with_len a (suc n)) ≡ flat_map f (range_with_len a n) ++ f (a + n)
range_more f a zero = let e : a ≡ a + 0 = omega arith in append-nil (f a) ∙ ap f e
range_more f a (suc n) =
    let e : (a + 1) + n ≡ a + suc n = omega arith in
    ap (λ es. f a ++ es) (range_more f (a + 1) n ∙ ap (λ k. flat_map f (range_with_len (a + 1) n) ++ f k) e) ∙ sym (append_assoc (f a) (flat_map f (range_with_len (a + 1) n)) (f (a + suc n)))

all_at : {A : Type 0} (P : A → Type 0) (xs : List A) → ((j : ℕ) (x : A) → slice_get xs j ≡ Some x → P x) → AllByRecursion P xs
all_at P [] h = tt
all_at P (x ∷ xs) h = (h 0 x refl, all_at P xs (λ j y at. h (suc j) y at))

-- ---- the imports of an instantiation
module _ (g : Graph) (n : ℕ) where
  unset_entries : (i : ℕ) (imports : List (Name × ItemKind)) → unsatisfied g n i imports ≡ map (row_entry n) (map row_of (unset (is_satisfied g n) i imports))
  unset_entries i [] = refl
  unset_entries i (e ∷ imports) = split (is_satisfied g n i) (unset_entries (suc i) imports) where
    split : (b : Bool) → unsatisfied g n (suc i) imports ≡ map (row_entry n) (map row_of (unset (is_satisfied g n) (suc i) imports))
        → cond b (unsatisfied g n (suc i) imports) (record { name = e.0; kind = e.1; node = n } ∷ unsatisfied g n (suc i) imports) ≡ map (row_entry n) (map row_of (cond b (unset (is_satisfied g n) (suc i) imports) (e ∷ unset (is_satisfied g n) (suc i) imports)))
    split true h = h
    split false h = ap (λ rest. record { name = e.0; kind = e.1; node = n } ∷ rest) h

  pub first_entries : (o : Option GraphNode) → asked_by g n o ≡ map (row_entry n) (node_left g n 0 o)
  first_entries None = refl
  first_entries (Some node) = by_kind node.kind refl where
    by_kind : (k : Kind) → node.kind ≡ k → asked_by g n (Some node) ≡ map (row_entry n) (node_left g n 0 (Some node))
    by_kind graph.instantiation e = rw e (unset_entries 0 (imports_of g node))
    by_kind graph.definition e = rw e refl
    by_kind (graph.import name) e = rw e refl
    by_kind graph.alias e = rw e refl

  unset_held : (c : Collection) (i : ℕ) (imports : List (Name × ItemKind)) → AllByRecursion (λ e. IsHeldKind c e.1) imports → AllByRecursion (λ r. IsHeldKind c r.1) (map row_of (unset (is_satisfied g n) i imports))
  unset_held c i [] h = tt
  unset_held c i (e ∷ imports) h = split (is_satisfied g n i) (unset_held c (suc i) imports h.1) where
    split : (b : Bool) → AllByRecursion (λ r. IsHeldKind c r.1) (map row_of (unset (is_satisfied g n) (suc i) imports))
        → AllByRecursion (λ r. IsHeldKind c r.1) (map row_of (cond b (unset (is_satisfied g n) (suc i) imports) (e ∷ unset (is_satisfied g n) (suc i) imports)))
    split true r = r
    split false r = (h.0, r)

  world_held : IsWellFormed g.types → (w : ℕ) (o : Option World) → item_at g.types.worlds w ≡ o → AllByRecursion (λ e. IsHeldKind g.types e.1) (option_case o [] (λ x. x.imports))
  world_held wf w None at = tt
  world_held wf w (Some it) at = all_at (λ e. IsHeldKind g.types e.1) it.imports (imports_held g.types wf w it at)

  package_held : IsWellFormed g.types → (node : GraphNode) (o : Option PackageParts) → package_of g node ≡ o → AllByRecursion (λ e. IsHeldKind g.types e.1) (imports_of g node)
  package_held wf node None e = rw e tt
  package_held wf node (Some p) e = rw e (world_held wf p.world.0 (item_at g.types.worlds p.world.0) refl)

  pub first_held : IsWellFormed g.types → (o : Option GraphNode) → AllByRecursion (λ r. IsHeldKind g.types r.1) (node_left g n 0 o)
  first_held wf None = tt
  first_held wf (Some node) = by_kind node.kind refl where
    by_kind : (k : Kind) → node.kind ≡ k → AllByRecursion (λ r. IsHeldKind g.types r.1) (node_left g n 0 (Some node))
    by_kind graph.instantiation e = rw e (unset_held g.types 0 (imports_of g node) (package_held wf node (package_of g node) refl))
    by_kind graph.definition e = rw e tt
    by_kind (graph.import name) e = rw e tt
    by_kind graph.alias e = rw e tt

-- ---- the import of an import node
module _ (g : Graph) (n : ℕ) where
  none_imported : (o : Option GraphNode) → map node_row (imported_by n o) ≡ [] → imported_by n o ≡ []
  none_imported o h = empty (imported_by n o) h where
    empty : (es : List Entry) → map node_row es ≡ [] → es ≡ []
    empty [] h = refl
    empty (e ∷ es) h = cc

  abbrev of_row : Name × ItemKind × Option NodeId → Entry
  of_row r = record { name = r.0; kind = r.1; node = option_case r.2 0 (λ i. i.0) }

  of_rows : (es : List Entry) → es ≡ map of_row (map node_row es)
  of_rows [] = refl
  of_rows (e ∷ es) = ap (λ rest. e ∷ rest) (of_rows es)

  one_imported : (o : Option GraphNode) (name : Name) (kind : ItemKind) → map node_row (imported_by n o) ≡ (name, kind, Some (node_number n)) ∷ [] → imported_by n o ≡ record { name = name; kind = kind; node = n } ∷ []
  one_imported o name kind h = of_rows (imported_by n o) ∙ ap (map of_row) h

  import_held : IsSound g → (o : Option GraphNode) → node_at g (node_number n) ≡ o → (e : Entry) → imported_by n o ≡ e ∷ [] → IsHeldKind g.types e.kind
  import_held sound None at e h = cc
  import_held sound (Some node) at e h = by_kind node.kind refl where
    held : holds_type g.types (kind_type node.item_kind) ≡ true
    held = sound.held (node_number n) node at

    by_kind : (k : Kind) → node.kind ≡ k → IsHeldKind g.types e.kind
    by_kind graph.instantiation is = let none = rw is at h in cc
    by_kind graph.definition is = let none = rw is at h in cc
    by_kind (graph.import name) is = let one = rw is at h in let same : node.item_kind ≡ e.kind = cc in subst (λ k. IsHeldKind g.types k) same held
    by_kind graph.alias is = let none = rw is at h in cc

  pub asked_node : IsSound g → (name : Name) (kind : ItemKind) → node_rows g n ≡ (name, kind, Some (node_number n)) ∷ [] → (imported_by n (node_at g (node_number n)) ≡ record { name = name; kind = kind; node = n } ∷ []) × IsHeldKind g.types kind
  asked_node sound name kind h =
      let e : Entry = record { name = name; kind = kind; node = n } in
      let is : imported_by n (node_at g (node_number n)) ≡ e ∷ [] = one_imported (node_at g (node_number n)) name kind h in
      (is, import_held sound (node_at g (node_number n)) refl e is)

  pub no_node : node_rows g n ≡ [] → imported_by n (node_at g (node_number n)) ≡ []
  no_node h = none_imported (node_at g (node_number n)) h

-- ---- as far as a loop has come
module _ (c : Collection) where
  -- one of the entries that are left is asked for
  pub one_asked : (wanted old new : List Entry) (e : Entry) (before after : List Entry) → before ≡ e ∷ after → AsksAlike c wanted (old ++ all_with_used c before) → AsksAlike c (old ++ with_used c e) new → AsksAlike c wanted (new ++ all_with_used c after)
  one_asked wanted old new e before after is f g =
      let parts : old ++ all_with_used c before ≡ (old ++ with_used c e) ++ all_with_used c after = ap (λ es. old ++ all_with_used c es) is ∙ sym (append_assoc old (with_used c e) (all_with_used c after)) in
      stands_through c wanted ((old ++ with_used c e) ++ all_with_used c after) (new ++ all_with_used c after) (subst (AsksAlike c wanted) parts f) (stands_more c (old ++ with_used c e) new (all_with_used c after) g)

  -- those of one more number are asked for
  pub number_asked : (F : ℕ → List Entry) (first old new : List Entry) (n : ℕ) → AsksAlike c (first ++ all_with_used c (flat_map F (range_with_len 0 n))) old → AsksAlike c (old ++ all_with_used c (F n)) new
      → AsksAlike c (first ++ all_with_used c (flat_map F (range_with_len 0 (n + 1)))) new
  number_asked F first old new n f g =
      let A = all_with_used c (flat_map F (range_with_len 0 n)) in
      let one : n + 1 ≡ suc n = omega arith in
      let last : 0 + n ≡ n = omega arith in
      let all : flat_map F (range_with_len 0 (n + 1)) ≡ flat_map F (range_with_len 0 n) ++ F n = ap (λ k. flat_map F (range_with_len 0 k)) one ∙ range_more F 0 n ∙ ap (λ k. flat_map F (range_with_len 0 n) ++ F k) last in
      let parts : first ++ all_with_used c (flat_map F (range_with_len 0 (n + 1))) ≡ (first ++ A) ++ all_with_used c (F n) =
      ap (λ es. first ++ all_with_used c es) all ∙ ap (λ es. first ++ es) (flat_joined (with_used c) (flat_map F (range_with_len 0 n)) (F n)) ∙ sym (append_assoc first A (all_with_used c (F n))) in
      subst (λ es. AsksAlike c es new) (sym parts)
      (stands_through c ((first ++ A) ++ all_with_used c (F n)) (old ++ all_with_used c (F n)) new (stands_more c (first ++ A) old (all_with_used c (F n)) f) g)

  -- those of a number are asked for in two parts
  pub both_parts : (old mid new xs ys zs : List Entry) → zs ≡ xs ++ ys → AsksAlike c (old ++ all_with_used c xs) mid → AsksAlike c (mid ++ all_with_used c ys) new → AsksAlike c (old ++ all_with_used c zs) new
  both_parts old mid new xs ys zs is f g =
      let parts : old ++ all_with_used c zs ≡ (old ++ all_with_used c xs) ++ all_with_used c ys =
      ap (λ es. old ++ all_with_used c es) is ∙ ap (λ es. old ++ es) (flat_joined (with_used c) xs ys) ∙ sym (append_assoc old (all_with_used c xs) (all_with_used c ys)) in
      subst (λ es. AsksAlike c es new) (sym parts)
      (stands_through c ((old ++ all_with_used c xs) ++ all_with_used c ys) (mid ++ all_with_used c ys) new (stands_more c (old ++ all_with_used c xs) mid (all_with_used c ys) f) g)

  -- a number that asks for nothing
  pub number_passed : (F : ℕ → List Entry) (first old : List Entry) (n : ℕ) → AsksAlike c (first ++ all_with_used c (flat_map F (range_with_len 0 n))) old → F n ≡ [] → AsksAlike c (first ++ all_with_used c (flat_map F (range_with_len 0 (n + 1)))) old
  number_passed F first old n f none = number_asked F first old old n f (subst (λ es. AsksAlike c (old ++ all_with_used c es) old) (sym none) (subst (λ es. AsksAlike c es old) (sym (append-nil old)) (stands_itself c old)))

  pub one_number : (old new : List Entry) (e : Entry) (es : List Entry) → es ≡ e ∷ [] → AsksAlike c (old ++ with_used c e) new → AsksAlike c (old ++ all_with_used c es) new
  one_number old new e es is g = subst (λ xs. AsksAlike c (old ++ all_with_used c xs) new) (sym is) (subst (λ xs. AsksAlike c (old ++ xs) new) (sym (append-nil (with_used c e))) g)

  pub nothing_asked : (F : ℕ → List Entry) (first : List Entry) → AsksAlike c (first ++ all_with_used c (flat_map F (range_with_len 0 0))) first
  nothing_asked F first = subst (λ es. AsksAlike c es first) (sym (append-nil first)) (stands_itself c first)

-- ---- all numbers
module _ (a : Fields) (end : ℕ) (slots : length a.nodes.slots ≤ end) where
  pub all_asked : all_asked_by (graph_of a) ≡ flat_map (asked_at (graph_of a)) (range_with_len 0 end)
  all_asked = by_numbers a end slots (asked_at (graph_of a)) (λ n none. ap (asked_by (graph_of a) n) (node_is a n None none))

  pub all_imported : all_imported_by (graph_of a) ≡ flat_map (imported_at (graph_of a)) (range_with_len 0 end)
  all_imported = by_numbers a end slots (imported_at (graph_of a)) (λ n none. ap (imported_by n) (node_is a n None none))

  pub all_wanted : (d : Bool) → flat_map (wanted_at (graph_of a) d) (finite.keys (graph_of a).nodes) ≡ flat_map (wanted_at (graph_of a) d) (range_with_len 0 end)
  all_wanted d = by_numbers a end slots (wanted_at (graph_of a) d) (λ n none. ap (wanted_by (graph_of a) d n) (node_is a n None none))

-- an instantiation is wanted for what it asks for, and for its package where packages are imported
pub wanted_asked : (g : Graph) (d : Bool) (n : ℕ) (o : Option GraphNode) (node : GraphNode) → o ≡ Some node → node.kind ≡ graph.instantiation → wanted_by g d n o ≡ asked_by g n o ++ imported_package g d n node
wanted_asked g d n None node is kind = cc
wanted_asked g d n (Some other) node is kind =
    let same : other ≡ node = cc in
    let of_other : other.kind ≡ graph.instantiation = ap (λ (x : GraphNode). x.kind) same ∙ kind in
    subst (λ (x : GraphNode). wanted_by g d n (Some other) ≡ asked_by g n (Some other) ++ imported_package g d n x) same (by of_other)
  where
    by : other.kind ≡ graph.instantiation → wanted_by g d n (Some other) ≡ asked_by g n (Some other) ++ imported_package g d n other
    by e = rw e refl

-- first what instantiations ask for, then what import nodes do
pub both_asked : (g : Graph) (mid new : List Entry) → AsksAlike g.types (all_with_used g.types (all_asked_by g)) mid → AsksAlike g.types (mid ++ all_with_used g.types (all_imported_by g)) new → AsksAlike g.types (all_with_used g.types (asked g)) new
both_asked g mid new f h =
    let c = g.types in
    subst (λ es. AsksAlike c es new) (sym (flat_joined (with_used c) (all_asked_by g) (all_imported_by g)))
    (stands_through c (all_with_used c (all_asked_by g) ++ all_with_used c (all_imported_by g)) (mid ++ all_with_used c (all_imported_by g)) new (stands_more c (all_with_used c (all_asked_by g)) mid (all_with_used c (all_imported_by g)) f) h)
