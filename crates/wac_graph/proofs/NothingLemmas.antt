-- No entries have a merge, whatever types there are, and it is the same over all of them.
use Rattle.std.proofs.Common.{◌≡◌, ◌<◌, ℕ, List, [], map, Some, ap, sym, refl, subst, ◌∙◌, arith}
use Rattle.std.specs.Prelude.{slice_get}
use Rattle.wac_edges.specs.cycles.Cycles.{Path, step, further}
use Rattle.wac_types_shapes.specs.primitives.Name.{Name}
use Rattle.wac_types_shapes.specs.declared.shapes.component.InterfaceId.{InterfaceId}
use Rattle.wac_types_collection.specs.collection.Collection.{Collection, interface_exports}
use Rattle.wac_types_weight.proofs.Near.{near-is-least}
use Rattle.wac_merge_classes.specs.entries.Classes.{Entry, by_names, class_names}
use Rattle.wac_merge_classes.specs.terms.ClassOrder.{RestsOn, by_use, by_resource, grouped}
use Rattle.wac_merge_classes.specs.terms.Merge.{Merged, IsMerge, names_behind}
use Rattle.wac_merge_unions.specs.uses.United.{listed_by}
use Rattle.wac_merge_classes.specs.terms.NoDisagreement.{HasNoDisagreement}
use Rattle.wac_types_shapes.specs.declared.shapes.component.ItemKind.{ItemKind}
use Rattle.wac_merge_classes.specs.entries.Agreement.{AllMembersAgree}
use Rattle.wac_merge_imports.specs.unions.EntryFaults.{HasEntryWith, HasFaultsOfEntries}
use Rattle.wac_merge_imports.specs.unions.Lighter.{IsLighter}
use Rattle.wac_merge_imports.specs.unions.MergedScope.{BindsAsClasses}
use Rattle.wac_merge.specs.Aggregate.{Aggregate}
use Rattle.wac_merge.specs.MergedPlaces.{MentionsBefore}
use Rattle.wac_graph.specs.private.Kept.{KeepsImports}
use Rattle.wac_merge.specs.Listed.{AreListedInOrder, Unites, as_import, inside, united_interfaces}
use Rattle.wac_merge_classes.specs.terms.Faults.{HasNoCircle}
use Rattle.wac_edges.proofs.ArrangedLaws.{arranges_alike}
use Rattle.wac_graph_model.specs.nodes.Graph.{Graph}
use Rattle.wac_graph_model.specs.nodes.Entries.{asked_entries, to_merge}
use Rattle.wac_graph_model.specs.nodes.OuterImports.{outer_entries}
use Rattle.wac_graph_model.specs.causes.Cause.{HasMerge}

-- there is no class
no_class : (k : ℕ) (class : Name) → slice_get (class_names by_names []) k ≡ Some class → ⊥
no_class k class at = cc

-- and none rests on another
no_rest : (c : Collection) (a b : ℕ) → RestsOn by_names c [] a b → ⊥
no_rest c a b (by_use x y class other id e i j used apart at other_at member is widely used_held has_id same) = no_class x class at
no_rest c a b (by_resource x y class e apart at member mentions) = no_class x class at

no_path : (c : Collection) (a b : ℕ) → Path (RestsOn by_names c []) a b → ⊥
no_path c a b (step x y s) = no_rest c x y s
no_path c a b (further x y z s p) = no_rest c x y s

pub no_circle : (c : Collection) → HasNoCircle by_names c []
no_circle c a p = no_path c a a p

pub no_disagreement : (c : Collection) → HasNoDisagreement by_names c []
no_disagreement c i j d = let at = d.at_first in cc

-- a merge of no entries over some types is one over others
pub nothing_merges : (c d : Collection) (m : Merged) → IsMerge by_names d [] m → IsMerge by_names c [] m
nothing_merges c d m h = record {
  order = h.order;
  written = arranges_alike (RestsOn by_names d []) (RestsOn by_names c []) (λ a b. (λ r. absurd (no_rest d a b r), λ s. absurd (no_rest c a b s))) (grouped by_names []) [] (grouped by_names []) h.order h.written;
  count = h.count;
  names = h.names;
  items = λ p k class e ordered named there. absurd (no_class k class named);
  listed = λ p k class e ordered named there. absurd (no_class k class named);
  subtypes = λ p k class e ordered named there. absurd (no_class k class named);
  equal = λ p k class e ordered named there apart. absurd (no_class k class named);
}

-- its interfaces unite none, over whatever types
none_listed : (c : Collection) (is : List InterfaceId) (n : Name) → is ≡ [] → united_interfaces (listed_by c is n) ≡ []
none_listed c is n none = ap (λ js. united_interfaces (listed_by c js n)) none

unites_nothing : (c d : Collection) (m : Merged) (w : InterfaceId) (is : List InterfaceId) → Unites by_names c [] m w is → (is ≡ []) × Unites by_names d [] m w is
unites_nothing c d m w is (as_import p e x at of_kind) = (refl, as_import p e x at of_kind)
unites_nothing c d m w is (inside x v js it n k around at found of_kind) =
    let (none, other) = unites_nothing c d m x js around in (
      none_listed c js n none,
      subst (λ (ks : List InterfaceId). Unites by_names d [] m v ks) (none_listed d js n none ∙ sym (none_listed c js n none)) (inside x v js it n k other at found of_kind),
    )

nothing_listed : (c d : Collection) (m : Merged) → AreListedInOrder by_names d [] m → AreListedInOrder by_names c [] m
nothing_listed c d m h w is it united at =
    let (none, other) = unites_nothing c d m w is united in
    h w is it other at ∙ ap (λ js. names_behind [] (map (interface_exports d) js)) none ∙ sym (ap (λ js. names_behind [] (map (interface_exports c) js)) none)

-- a graph that asks for nothing
pub has_merge : (g : Graph) → asked_entries g ≡ [] → HasMerge g
has_merge g none =
    let same : to_merge (asked_entries g) ≡ [] = ap to_merge none in (
      subst (λ (es : List Entry). HasNoDisagreement by_names g.types es) (sym same) (no_disagreement g.types),
      subst (λ (es : List Entry). HasNoCircle by_names g.types es) (sym same) (no_circle g.types),
    )

pub merges_nothing : (g : Graph) (d : Collection) (es : List Entry) (m : Merged) → asked_entries g ≡ [] → es ≡ [] → IsMerge by_names d es m → IsMerge by_names g.types (outer_entries g) m
merges_nothing g d es m none are h =
    let same : outer_entries g ≡ [] = ap to_merge none in
    subst (λ (l : List Entry). IsMerge by_names g.types l m) (sym same) (nothing_merges g.types d m (subst (λ (l : List Entry). IsMerge by_names d l m) are h))

pub lists_nothing : (g : Graph) (d : Collection) (es : List Entry) (m : Merged) → asked_entries g ≡ [] → es ≡ [] → AreListedInOrder by_names d es m → AreListedInOrder by_names g.types (outer_entries g) m
lists_nothing g d es m none are h =
    let same : outer_entries g ≡ [] = ap to_merge none in
    subst (λ (l : List Entry). AreListedInOrder by_names g.types l m) (sym same) (nothing_listed g.types d m (subst (λ (l : List Entry). AreListedInOrder by_names d l m) are h))

-- no class binds anything, no import has a fault, and all members agree
none_among : (x : Entry) (Has : ItemKind → Type 0) → HasEntryWith by_names [] x Has → ⊥
none_among x Has h = let low : (h.1).0 < 0 = (h.1).1 in omega (arith, low)

nothing_binds : (c : Collection) (m : Merged) → BindsAsClasses by_names c [] m
nothing_binds c m = record { binds = λ k class n at. absurd (no_class k class at); same = λ class r. refl }

nothing_fails : (c d : Collection) (m : Merged) → HasFaultsOfEntries by_names d [] m → HasFaultsOfEntries by_names c [] m
nothing_fails c d m h = record {
  own = λ p x f at is. absurd (none_among x _ (h.own p x f at is));
  unbound = λ p x at is. absurd (none_among x _ (h.unbound p x at is));
  inside = λ p x f at is. absurd (none_among x _ (h.inside p x f at is));
}

pub keeps_nothing : (g : Graph) (d : Collection) (es : List Entry) (a : Aggregate) → asked_entries g ≡ [] → es ≡ [] → MentionsBefore by_names a.merge → HasFaultsOfEntries by_names d es a.merge → KeepsImports g a
keeps_nothing g d es a none are before h =
    let same : outer_entries g ≡ [] = ap to_merge none in record {
      binds = subst (λ (l : List Entry). BindsAsClasses by_names g.types l a.merge) (sym same) (nothing_binds g.types a.merge);
      before = before;
      faults = subst (λ (l : List Entry). HasFaultsOfEntries by_names g.types l a.merge) (sym same) (nothing_fails g.types d a.merge (subst (λ (l : List Entry). HasFaultsOfEntries by_names d l a.merge) are h));
    }

pub nothing_agrees : (g : Graph) → asked_entries g ≡ [] → AllMembersAgree by_names g.types (outer_entries g)
nothing_agrees g none =
    let same : outer_entries g ≡ [] = ap to_merge none in
    subst (λ (l : List Entry). AllMembersAgree by_names g.types l) (sym same) (λ class i j e f at. absurd (nothing i e at))
  where
    nothing : (k : ℕ) (e : Entry) → slice_get [] k ≡ Some e → ⊥
    nothing k e at = cc

-- what weighs no more than nothing of one collection weighs no more than nothing of another
pub nothing_lighter : (g : Graph) (d : Collection) (es : List Entry) (m : Merged) → asked_entries g ≡ [] → es ≡ [] → IsLighter d es m → IsLighter g.types (outer_entries g) m
nothing_lighter g d es m none are lighter =
    let same : outer_entries g ≡ [] = ap to_merge none in
    subst (λ (l : List Entry). IsLighter g.types l m) (sym same) (moved (subst (λ (l : List Entry). IsLighter d l m) are lighter))
  where
    moved : IsLighter d [] m → IsLighter g.types [] m
    moved l =
        let least = near-is-least d [] [] (λ t h. absurd h) in record {
          names = l.names;
          items = l.items;
          inside = l.inside;
          near = omega (arith, l.near, least);
        }
