use Rattle.std.proofs.Common.{◌≡◌, List, [], Some, length, true, refl, ap, sym, ◌∙◌, subst, arith}
use Rattle.std.specs.Prelude.{slice_get}
use Rattle.std.proofs.lemmas.Option.{slice_get_read}
use Rattle.wac_types_shapes.specs.shapes.Kinds.{kind_type}
use Rattle.wac_types_shapes.specs.declared.shapes.component.ItemKind.{ItemKind}
use Rattle.wac_types_shapes.specs.declared.shapes.component.ResourceId.{ResourceId}
use Rattle.wac_types_collection.specs.collection.Collection.{Collection, IsWellFormed, holds_type}
use Rattle.wac_merge_classes.specs.entries.Classes.{Entry}
use Rattle.wac_graph_model.specs.nodes.Entries.{asked_entries, to_merge}
use Rattle.wac_graph_model.specs.nodes.Graph.{Graph}
use Rattle.wac_graph_encode.proofs.lemmas.places.MergeLemmas.{merge_held}
use Rattle.wac_graph_reader.proofs.lemmas.writing.AskedHeld.{held_entries}
use Rattle.wac_graph.specs.private.Bound.{AddsResources, IsBoundIn, ListsResource}
use Rattle.wac_graph.proofs.BoundLemmas.{AddsBefore, ImportLists, adds_all, adds_first, adds_next, all_bound}
use Rattle.wac_graph.proofs.graph.CompositionGraph.bound_resources.Goals as goal

pub loop-i-init : goal.loop-i-init
loop-i-init c =
    let m = c.args.merge.now in
    let lists = ImportLists c.args.self.now.types in
    let es = c.entries-entries.result.now in
    subst (λ (rs : List ResourceId). AddsBefore lists (IsBoundIn m) es [] 0 rs) (sym c.new-bound.ensures.empty) (adds_first lists (IsBoundIn m) es [])

pub add_import-requires-clause-held : goal.add_import-requires-clause-held
add_import-requires-clause-held c =
    let g = c.args.self.now in
    let types : c.self.inside.types ≡ g.types = ap (λ (h : Graph). h.types) c.self.view_is in
    let wf : IsWellFormed g.types = subst (λ (h : Graph). IsWellFormed h.types) c.self.view_is c.law-2.ensures in
    let es = c.entries-entries.result.now in
    let e = c.index-entries-i.result in
    let same : es ≡ to_merge (asked_entries g) = c.entries-entries.ensures ∙ c.requires.merged.entries in
    let at : slice_get es c.loop-i.i ≡ Some e = slice_get_read es (length es) c.loop-i.i e refl c.loop-i-test.true c.index-entries-i.is in
    let held : holds_type g.types (kind_type e.kind) ≡ true = merge_held g.types (asked_entries g) (held_entries g c.law.ensures wf) c.loop-i.i e (sym (ap (λ (xs : List Entry). slice_get xs c.loop-i.i) same) ∙ at) in
    subst (λ (t : Collection). holds_type t (kind_type c.kind-kind.result) ≡ true) (sym types)
    (subst (λ (k : ItemKind). holds_type g.types (kind_type k) ≡ true) (sym c.kind-kind.ensures) held)

pub loop-i-preserved : goal.loop-i-preserved
loop-i-preserved c =
    let g = c.args.self.now in
    let m = c.args.merge.now in
    let types : c.self.inside.types ≡ g.types = ap (λ (h : Graph). h.types) c.self.view_is in
    let es = c.entries-entries.result.now in
    let e = c.index-entries-i.result in
    let now = c.loop-i.bound.keys in
    let next = c.add_import.new.bound.keys in
    let at : slice_get es c.loop-i.i ≡ Some e = slice_get_read es (length es) c.loop-i.i e refl c.loop-i-test.true c.index-entries-i.is in
    adds_next (ImportLists g.types) (IsBoundIn m) es [] c.loop-i.i e now next at c.loop-i.invariant
    (subst (λ (t : Collection). AddsResources (λ r. ListsResource t e.kind r × IsBoundIn m r) now next) types
    (subst (λ (k : ItemKind). AddsResources (λ r. ListsResource c.self.inside.types k r × IsBoundIn m r) now next) c.kind-kind.ensures c.in_ok-add_import.ensures))

pub returns : goal.returns
returns c =
    let g = c.args.self.now in
    let m = c.args.merge.now in
    let es = c.entries-entries.result.now in
    let past = c.loop-i-test.false in
    all_bound g m es [] c.loop-i.bound.keys c.requires.kept.binds c.entries-entries.ensures c.requires.merged.entries refl
    (adds_all (ImportLists g.types) (IsBoundIn m) es [] c.loop-i.i c.loop-i.bound.keys (omega (arith, past)) c.loop-i.invariant)
