-- From what merging answers to what `encode` does.
use Rattle.std.proofs.Common.{lit<, ◌≡◌, ℕ, zero, suc, ◌<◌, true, false, is_some, List, [], ◌∷◌, length, map, get_or, refl, ap, ◌∙◌, sym, subst, arith, Some, None, Option, IfSome, ◌⊎◌, inl, inr}
use Rattle.std.specs.Global.{Global}
use Rattle.std.specs.Prelude.{slice_get, string_bytes}
use Rattle.std.specs.List.{AllByRecursion}
use Rattle.std.specs.Option.{MatchOption}
use Rattle.std.specs.declared.string.String.{String}
use Rattle.wac_types_shapes.specs.primitives.Name.{Name}
use Rattle.wac_types_collection.specs.collection.Collection.{Collection, holds_type}
use Rattle.wac_types_shapes.specs.shapes.Kinds.{kind_type}
use Rattle.wac_types_shapes.specs.declared.shapes.component.ItemKind.{ItemKind}
use Rattle.wac_merge.specs.Aggregate.{IsFault}
use Rattle.wac_merge_classes.specs.entries.Bindings.{AreHeld}
use Rattle.wac_merge_classes.specs.entries.Classes as merge
use Rattle.wac_merge_classes.specs.entries.Classes.{by_names}
use Rattle.wac_merge_classes.specs.terms.Faults.{Disagrees, HasFault, UseEachOther, disagree, fault_of, use_each_other}
use Rattle.wac_merge_classes.specs.declared.terms.fault.MergeFault.{MergeFault}
use Rattle.wac_merge_classes.specs.declared.terms.fault.MergeFault.TheVariants as fault
use Rattle.wac_graph_model.specs.declared.nodes.options.EncodeOptions.{EncodeOptions}
use Rattle.wac_graph_model.specs.declared.causes.errors.EncodeError.TheVariants as error
use Rattle.wac_edges.specs.declared.node.NodeId.{NodeId}
use Rattle.wac_graph_model.specs.nodes.Graph as graph
use Rattle.wac_edges.specs.Edge.{node_number}
use Rattle.wac_graph_model.specs.nodes.Graph.{Graph, GraphNode, Kind}
use Rattle.wac_graph_model.specs.nodes.Asked.{Entry, imported_by}
use Rattle.wac_graph_model.specs.causes.Cause.{HasNoConflict, IsMergeConflict, AsksImplicitly, AsksExplicitly, implicit_merge, explicit_merge, import_circle}
use Rattle.wac_graph_model.specs.nodes.Entries.{asked_entries, to_merge}
use Rattle.wac_graph_fields.specs.private.EntriesLeft.{IsHeldKind}
use Rattle.wac_graph_model.specs.nodes.Imports.{node_row, node_rows}
use Rattle.wac_edges.specs.Order.{IsAcyclic}
use Rattle.wac_graph_model.specs.private.causes.Search.{IsRefused}
use Rattle.wac_graph_reader.proofs.lemmas.writing.AskedHeld.{asking_nodes}
use Rattle.wac_graph_model.proofs.lemmas.causes.StandsLemmas.{stands_implicit, stands_explicit, stands_circle}

-- what holds of all holds of the one at a position
pub all_index : {A B : Type 0} (P : B → Type 0) (f : A → B) (xs : List A) (i : ℕ) (d : A) → i < length xs → AllByRecursion P (map f xs) → P (f (get_or xs i d))
all_index P f [] i d within h = absurd (omega (arith, within))
all_index P f (x ∷ xs) zero d within h = h.0
all_index P f (x ∷ xs) (suc i) d within h = all_index P f xs i d (omega (arith, within)) h.1

-- the one at a position is there
pub index_there : {A B : Type 0} (f : A → B) (xs : List A) (i : ℕ) (d : A) → i < length xs → slice_get (map f xs) i ≡ Some (f (get_or xs i d))
index_there f [] i d within = absurd (omega (arith, within))
index_there f (x ∷ xs) zero d within = refl
index_there f (x ∷ xs) (suc i) d within = index_there f xs i d (omega (arith, within))

-- what is asked for is held, as merging takes it
pub merge_held : (c : Collection) (es : List Entry) → AllByRecursion (λ e. IsHeldKind c e.kind) es → AreHeld c (to_merge es)
merge_held c [] h i e at = cc
merge_held c (x ∷ es) h zero e at = let same : ◌≡◌ {A = merge.Entry} (record { name = x.name; kind = x.kind }) e = cc in subst (λ (y : merge.Entry). holds_type c (kind_type y.kind) ≡ true) same h.0
merge_held c (x ∷ es) h (suc i) e at = merge_held c es h.1 i e at

-- an entry that merging takes is one that is asked for
pub entry_at : (es : List Entry) (i : ℕ) (e : merge.Entry) → slice_get (to_merge es) i ≡ Some e → (x : Entry) × (slice_get es i ≡ Some x) × (e.name ≡ x.name)
entry_at [] i e at = cc
entry_at (x ∷ es) zero e at = let same : ◌≡◌ {A = merge.Entry} (record { name = x.name; kind = x.kind }) e = cc in (x, refl, ap (λ (y : merge.Entry). y.name) (sym same))
entry_at (x ∷ es) (suc i) e at = entry_at es i e at

pub all_slice : {A : Type 0} (P : A → Type 0) (xs : List A) (i : ℕ) (x : A) → AllByRecursion P xs → slice_get xs i ≡ Some x → P x
all_slice P [] i x h at = cc
all_slice P (y ∷ xs) zero x h at = let same : y ≡ x = cc in subst P same h.0
all_slice P (y ∷ xs) (suc i) x h at = all_slice P xs i x h.1 at

pub mapped_within : {A B : Type 0} (f : A → B) (xs : List A) (i : ℕ) (y : B) → slice_get (map f xs) i ≡ Some y → i < length xs
mapped_within f [] i y at = cc
mapped_within f (x ∷ xs) zero y at = omega arith
mapped_within f (x ∷ xs) (suc i) y at = let h = mapped_within f xs i y at in omega (arith, h)

-- ---- import nodes
some_row : {A B : Type 0} (f : A → B) (o : Option A) (rows : List B) → MatchOption o (rows ≡ []) (λ r. rows ≡ f r ∷ []) → is_some o ≡ true → rows ≡ [] → ⊥
some_row f None rows h some none = cc
some_row f (Some r) rows h some none = cc

no_row : {A B : Type 0} (f : A → B) (o : Option A) (rows : List B) → MatchOption o (rows ≡ []) (λ r. rows ≡ f r ∷ []) → is_some o ≡ false → rows ≡ []
no_row f None rows h none = h
no_row f (Some r) rows h none = cc

module _ (g : Graph) (n : ℕ) where
  row_implicit : AsksImplicitly g (node_number n) → node_rows g n ≡ []
  row_implicit a = ap (λ o. map node_row (imported_by n o)) (a.there) ∙ of_kind a.node (a.node).kind refl a.instantiated where
    of_kind : (node : GraphNode) (k : Kind) → node.kind ≡ k → node.kind ≡ graph.instantiation → map node_row (imported_by n (Some node)) ≡ []
    of_kind node k e is = rw is refl

  row_explicit : AsksExplicitly g (node_number n) → node_rows g n ≡ [] → ⊥
  row_explicit a none = of_kind a.node a.name a.imported (sym (ap (λ o. map node_row (imported_by n o)) (a.there)) ∙ none) where
    of_kind : (node : GraphNode) (name : Name) → node.kind ≡ graph.import name → map node_row (imported_by n (Some node)) ≡ [] → ⊥
    of_kind node name is empty = let wrong = rw is at empty in cc

  pub is_explicit : AsksImplicitly g (node_number n) ⊎ AsksExplicitly g (node_number n) → (node_rows g n ≡ [] → ⊥) → AsksExplicitly g (node_number n)
  is_explicit (inl a) some = absurd (some (row_implicit a))
  is_explicit (inr a) some = a

  pub is_implicit : AsksImplicitly g (node_number n) ⊎ AsksExplicitly g (node_number n) → node_rows g n ≡ [] → AsksImplicitly g (node_number n)
  is_implicit (inl a) none = a
  is_implicit (inr a) none = absurd (row_explicit a none)

-- ---- refusals
module _ (g : Graph) (o : EncodeOptions) (acyclic : IsAcyclic g.edges) (apart : HasNoConflict g) where
  module _ (p q : ℕ) (text : Name) (d : Disagrees by_names g.types (to_merge (asked_entries g)) p q text) (a b : Entry) (at_a : slice_get (asked_entries g) p ≡ Some a) (at_b : slice_get (asked_entries g) q ≡ Some b) where
    abbrev conflict_there : IsMergeConflict g p q text
    conflict_there = record { disagree = d; earlier = a; later = b; at_first = at_a; at_second = at_b }

    asker : AsksImplicitly g (node_number b.node) ⊎ AsksExplicitly g (node_number b.node)
    asker = all_slice (λ (e : Entry). AsksImplicitly g (node_number e.node) ⊎ AsksExplicitly g (node_number e.node)) (asked_entries g) q b (asking_nodes g) at_b

    pub explicit_refused : (import : String Global) → string_bytes import ≡ b.name → {A : Type 0} (f : A → Name × ItemKind × Option NodeId) (r : Option A) → MatchOption r (node_rows g b.node ≡ []) (λ x. node_rows g b.node ≡ f x ∷ []) → is_some r ≡ true
        → IsRefused g o (error.ExplicitImportMergeConflict import (node_number b.node) (node_number a.node))
    explicit_refused import name f r h some =
        let asks : AsksExplicitly g (node_number b.node) = is_explicit g b.node asker (some_row f r (node_rows g b.node) h some) in
        inr (
          explicit_merge (string_bytes import) (node_number b.node) (node_number a.node),
          refl,
          lit< tt,
          stands_explicit g o (string_bytes import) (node_number b.node) (node_number a.node) acyclic apart (record { first = p; second = q; export = text; conflict = conflict_there; asked = asks; name = name; by_node = refl; by_other = refl }),
        )

  pub implicit_refused : (p q : ℕ) (export : String Global) (d : Disagrees by_names g.types (to_merge (asked_entries g)) p q (string_bytes export)) (a b : Entry) → slice_get (asked_entries g) p ≡ Some a → slice_get (asked_entries g) q ≡ Some b
      → (import : String Global) → string_bytes import ≡ b.name → {A : Type 0} (f : A → Name × ItemKind × Option NodeId) (r : Option A) → MatchOption r (node_rows g b.node ≡ []) (λ x. node_rows g b.node ≡ f x ∷ []) → is_some r ≡ false
      → IsRefused g o (error.ImportTypeMergeConflict import (node_number a.node) (node_number b.node) (fault.Disagree p q export))
  implicit_refused p q export d a b at_a at_b import name f r h none =
      let asks : AsksImplicitly g (node_number b.node) = is_implicit g b.node (asker p q (string_bytes export) d a b at_a at_b) (no_row f r (node_rows g b.node) h none) in
      inr (
        implicit_merge (string_bytes import) (node_number a.node) (node_number b.node) p q (string_bytes export),
        refl,
        lit< tt,
        stands_implicit g o (string_bytes import) (node_number a.node) (node_number b.node) p q (string_bytes export) acyclic apart
            (record { conflict = conflict_there p q (string_bytes export) d a b at_a at_b; asked = asks; name = name; by_first = refl; by_second = refl }),
      )

  -- a fault that names a circle
  pub circle_refused : (import : String Global) → IsFault g.types (to_merge (asked_entries g)) (fault.UseEachOther import) → IsRefused g o (error.ImportsUseEachOther import)
  circle_refused import (inl wrong) = cc
  circle_refused import (inr (disagree p q x, names, has)) = cc
  circle_refused import (inr (use_each_other name, names, has)) =
      let same : string_bytes import ≡ name = cc in
      inr (import_circle (string_bytes import), refl, lit< tt, stands_circle g o (string_bytes import) acyclic apart has.0 (subst (λ n. UseEachOther by_names g.types (to_merge (asked_entries g)) n) (sym same) has.1))

-- a fault that names a disagreement
pub pair_there : (g : Graph) (p q : ℕ) (export : String Global) → IsFault g.types (to_merge (asked_entries g)) (fault.Disagree p q export) → Disagrees by_names g.types (to_merge (asked_entries g)) p q (string_bytes export)
pair_there g p q export (inl wrong) = cc
pair_there g p q export (inr (use_each_other name, names, has)) = cc
pair_there g p q export (inr (disagree r s x, names, has)) =
    let first : r ≡ p = cc in
    let second : s ≡ q = cc in
    let text : x ≡ string_bytes export = cc in
    subst (λ i. Disagrees by_names g.types (to_merge (asked_entries g)) i q (string_bytes export)) first
    (subst (λ j. Disagrees by_names g.types (to_merge (asked_entries g)) r j (string_bytes export)) second (subst (λ n. Disagrees by_names g.types (to_merge (asked_entries g)) r s n) text has))

-- what `finish` says of a fault
pub is_fault : (c : Collection) (es : List merge.Entry) (e : MergeFault) → IfSome (fault_of e) (HasFault by_names c es) → IsFault c es e
is_fault c es (fault.Disagree p q x) h = inr (disagree p q (string_bytes x), refl, h)
is_fault c es (fault.UseEachOther x) h = inr (use_each_other (string_bytes x), refl, h)
is_fault c es fault.OutOfMemory h = inl refl
