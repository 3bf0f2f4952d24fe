-- What nodes ask to be written, as the fields have it, and the first of it that cannot be.
use Rattle.std.proofs.Common.{◌≡◌, ℕ, ◌+◌, ◌<◌, ◌≤◌, nat_lt, Bool, true, false, List, [], ◌∷◌, ◌++◌, Option, Some, None, IfSome, refl, ap, ◌∙◌, sym, subst, arith}
use Rattle.std.specs.Prelude.{slice_get, IsSomeAnd}
use Rattle.std.specs.Option.{option_and_then}
use Rattle.std.proofs.lemmas.Bool.Decides.{nat_tests}
use Rattle.slab.specs.Slab.{get}
use Rattle.wac_types_shapes.specs.primitives.Name.{option_case}
use Rattle.wac_types_shapes.specs.declared.shapes.component.ItemKind.TheVariants.{Component}
use Rattle.wac_types_collection.specs.collection.Collection.{Collection}
use Rattle.wac_types_collection.specs.collection.Package.{PackageParts}
use Rattle.wac_edges.specs.Edge.{node_number}
use Rattle.wac_graph_model.specs.declared.nodes.node.Node.{Node}
use Rattle.wac_graph_model.specs.declared.nodes.packages.PackageId.{PackageId}
use Rattle.wac_graph_model.specs.nodes.Graph as graph
use Rattle.wac_graph_model.specs.nodes.Graph.{Graph, GraphNode, Kind, node_at, package_at}
use Rattle.wac_graph_model.specs.nodes.Nodes.{node_of, kind_of}
use Rattle.wac_graph_model.specs.nodes.Asked.{Entry, asked_by}
use Rattle.wac_graph_fields.specs.private.EntriesLeft.{AsksAlike, all_with_used, asked_at}
use Rattle.wac_graph_fields.proofs.EntryLists.{stands_itself}
use Rattle.std.proofs.lemmas.List.{append-nil}
use Rattle.wac_encode_faults.specs.declared.fault.WriteFault.{WriteFault}
use Rattle.wac_encode_faults.specs.declared.faults.Role.TheVariants as role
use Rattle.wac_encode_faults.specs.Faults.{IsLowest}
use Rattle.wac_graph_model.specs.causes.TypeFaults.{imported_package, wanted_by, wanted_by_kind, wanted_at, wanted_entries, role_of, role_of_kind, IsEntryFault, IsTypeFault}
use Rattle.wac_graph_fields.specs.private.Fields.{Fields, graph_of}
use Rattle.wac_graph_reader.proofs.lemmas.writing.EncodingLemmas.{node_is}
use Rattle.wac_graph_reader.proofs.lemmas.writing.AskingWalk.{wanted_asked}

-- ---- what a node asks for
module _ (a : Fields) (d : Bool) (n : ℕ) where
  pub none_wanted : get a.nodes n ≡ None → wanted_at (graph_of a) d n ≡ []
  none_wanted had = ap (wanted_by (graph_of a) d n) (node_is a n None had)

  pub node_wanted : (node : Node) → get a.nodes n ≡ Some node → (k : Kind) → kind_of node.kind ≡ k → wanted_at (graph_of a) d n ≡ wanted_by_kind (graph_of a) d n (node_of node) k
  node_wanted node had k is = ap (wanted_by (graph_of a) d n) (node_is a n (Some node) had) ∙ ap (wanted_by_kind (graph_of a) d n (node_of node)) is

module _ (a : Fields) (n : ℕ) where
  pub none_role : get a.nodes n ≡ None → role_of (node_at (graph_of a) (node_number n)) ≡ role.Imported
  none_role had = ap role_of (node_is a n None had)

  module _ (node : Node) (had : get a.nodes n ≡ Some node) where
    pub node_role : role_of (node_at (graph_of a) (node_number n)) ≡ role_of_kind (kind_of node.kind)
    node_role = ap role_of (node_is a n (Some node) had)

    pub is_instantiation : kind_of node.kind ≡ graph.instantiation → IsSomeAnd (node_at (graph_of a) (node_number n)) (λ x. x.kind ≡ graph.instantiation)
    is_instantiation is = subst (λ o. IsSomeAnd o (λ x. x.kind ≡ graph.instantiation)) (sym (node_is a n (Some node) had)) is

-- an instantiation needs its unsatisfied imports, and its package where packages are imported
module _ (g : Graph) (d : Bool) (n : ℕ) where
  abbrev IsInstantiation : Option GraphNode → Type 0
  IsInstantiation o = IsSomeAnd o (λ x. x.kind ≡ graph.instantiation)

  pub defined_wanted : d ≡ true → IsInstantiation (node_at g (node_number n)) → wanted_at g d n ≡ asked_at g n
  defined_wanted are is = by (node_at g (node_number n)) is where
    by : (o : Option GraphNode) → IsInstantiation o → wanted_by g d n o ≡ asked_by g n o
    by None is = absurd is
    by (Some node) is = wanted_asked g d n (Some node) node refl is ∙ ap (λ b. asked_by g n (Some node) ++ imported_package g b n node) are ∙ append-nil (asked_by g n (Some node))

  abbrev package_entry : PackageParts → Entry
  package_entry p = record { name = []; kind = Component p.world; node = n }

  pub imported_wanted : (id : PackageId) (p : PackageParts) → d ≡ false → IsInstantiation (node_at g (node_number n)) → IfSome (node_at g (node_number n)) (λ x. x.owner ≡ Some id) → package_at g id ≡ Some p
      → wanted_at g d n ≡ asked_at g n ++ package_entry p ∷ []
  imported_wanted id p are is owned there = by (node_at g (node_number n)) is owned where
    one : (node : GraphNode) → node.owner ≡ Some id → imported_package g d n node ≡ package_entry p ∷ []
    one node owner =
        ap (λ b. imported_package g b n node) are
        ∙ ap (λ o. option_case (option_and_then (package_at g) o) [] (λ x. package_entry x ∷ [])) owner
        ∙ ap (λ o. option_case o [] (λ x. package_entry x ∷ [])) there

    by : (o : Option GraphNode) → IsInstantiation o → IfSome o (λ x. x.owner ≡ Some id) → wanted_by g d n o ≡ asked_by g n o ++ package_entry p ∷ []
    by None is owned = absurd is
    by (Some node) is owned = wanted_asked g d n (Some node) node refl is ∙ ap (λ es. asked_by g n (Some node) ++ es) (one node owned)

-- nothing more is asked for
pub nothing_wanted : (c : Collection) (old es : List Entry) → es ≡ [] → AsksAlike c (old ++ all_with_used c es) old
nothing_wanted c old es none = subst (λ xs. AsksAlike c (old ++ all_with_used c xs) old) (sym none) (subst (λ xs. AsksAlike c xs old) (sym (append-nil old)) (stands_itself c old))

-- ---- the first of it that cannot be written
module _ (g : Graph) (d : Bool) where
  -- none so far
  abbrev pub NoneBefore : ℕ → Type 0
  NoneBefore n = (i : ℕ) (e : Entry) (f : WriteFault) → i < n → slice_get (wanted_entries g d) i ≡ Some e → IsEntryFault g e f → ⊥

  by_order : {P : Type 0} (m n : ℕ) → (m < n → P) → (n ≤ m → P) → P
  by_order {P} m n less more = elim (nat_lt m n) as (λ b. nat_lt m n ≡ b → P) [ true ↦ λ e. less (grind (arith, nat_tests)) | false ↦ λ e. more (grind (arith, nat_tests)) ] refl

  -- nor here
  pub none_before_next : (n : ℕ) (x : Entry) → slice_get (wanted_entries g d) n ≡ Some x → IsLowest (IsEntryFault g x) None → NoneBefore n → NoneBefore (n + 1)
  none_before_next n x at none before i e f l is h = by_order i n (λ k. before i e f k is h) (λ k. here (omega (arith, k, l)))
    where
      here : i ≡ n → ⊥
      here same =
          let one : Some e ≡ Some x = sym is ∙ ap (slice_get (wanted_entries g d)) same ∙ at in
          let it : e ≡ x = cc in
          none f (subst (λ z. IsEntryFault g z f) it h)

  pub first_fault : (n : ℕ) (x : Entry) (f : WriteFault) → slice_get (wanted_entries g d) n ≡ Some x → IsLowest (IsEntryFault g x) (Some f) → NoneBefore n → IsTypeFault g d (node_number x.node) f
  first_fault n x f at low before = record {
    position = n;
    entry = x;
    there = at;
    by_node = refl;
    lowest = low;
    first = λ i e other is h. by_order i n (λ k. absurd (before i e other k is h)) (λ k. k);
  }
