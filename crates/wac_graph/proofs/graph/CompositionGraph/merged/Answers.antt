use Rattle.std.proofs.Common.{◌≡◌, List, map, ap, sym, ◌∙◌, subst}
use Rattle.std.specs.List.{AllByRecursion}
use Rattle.wac_types_collection.specs.collection.Collection.{Collection, IsWellFormed}
use Rattle.wac_merge.specs.Aggregate.{IsFault}
use Rattle.wac_merge.specs.Listed.{AreListedInOrder}
use Rattle.wac_merge_classes.specs.entries.Bindings.{AreHeld}
use Rattle.wac_merge_classes.specs.terms.Merge.{IsMerge}
use Rattle.wac_types_collection.specs.collection.Names.{ExportsOnce}
use Rattle.wac_merge_classes.specs.terms.Faults.{HasNoCircle}
use Rattle.wac_merge_classes.specs.terms.NoDisagreement.{HasNoDisagreement}
use Rattle.wac_merge_classes.specs.declared.terms.fault.MergeFault.{MergeFault}
use Rattle.wac_merge_classes.specs.entries.Agreement.{AllMembersAgree}
use Rattle.wac_merge_classes.specs.entries.Classes as merge
use Rattle.wac_merge_imports.specs.unions.EntryFaults.{HasFaultsOfEntries}
use Rattle.wac_merge_imports.specs.unions.Lighter.{IsLighter}
use Rattle.wac_merge_imports.specs.unions.MergedScope.{BindsAsClasses}
use Rattle.wac_graph_model.specs.nodes.Asked.{Entry}
use Rattle.wac_graph_model.specs.nodes.Entries.{asked_entries, to_merge}
use Rattle.wac_graph_fields.specs.private.EntriesLeft.{entry_view, IsHeldKind}
use Rattle.wac_graph_model.specs.nodes.Graph.{Graph}
use Rattle.wac_graph_reader.proofs.lemmas.writing.AskedHeld.{held_entries}
use Rattle.wac_graph_encode.proofs.lemmas.places.MergeLemmas.{is_fault, merge_held}
use Rattle.wac_graph.proofs.graph.CompositionGraph.merged.Goals as goal

pub aggregated-requires : goal.aggregated-requires
aggregated-requires c =
    let g = c.args.self.now in
    let wf : IsWellFormed g.types = subst (λ (h : Graph). IsWellFormed h.types) c.self.view_is c.law-2.ensures in
    let same : map entry_view c.as_slice.result.now ≡ asked_entries g = ap (map entry_view) c.as_slice.ensures.value ∙ c.in_ok-entries.ensures in
    subst (AllByRecursion (λ (e : Entry). IsHeldKind g.types e.kind)) (sym same) (held_entries g c.law.ensures wf)

pub finish-requires : goal.finish-requires
finish-requires c =
    let g = c.args.self.now in
    let wf : IsWellFormed g.types = subst (λ (h : Graph). IsWellFormed h.types) c.self.view_is c.law-2.ensures in
    let types : c.self.inside.types ≡ g.types = ap (λ (h : Graph). h.types) c.self.view_is in
    let same : map entry_view c.as_slice.result.now ≡ asked_entries g = ap (map entry_view) c.as_slice.ensures.value ∙ c.in_ok-entries.ensures in
    let entries : c.in_ok-aggregator.aggregator.entries ≡ to_merge (asked_entries g) = c.in_ok-aggregator.ensures ∙ ap to_merge same in
    subst (λ (t : Collection). AreHeld t c.in_ok-aggregator.aggregator.entries) (sym types)
    (subst (λ (es : List merge.Entry). AreHeld g.types es) (sym entries) (merge_held g.types (asked_entries g) (held_entries g c.law.ensures wf)))

pub returns-in-Ok-clause-merges : goal.returns-in-Ok-clause-merges
returns-in-Ok-clause-merges c =
    let g = c.args.self.now in
    let types : c.self.inside.types ≡ g.types = ap (λ (h : Graph). h.types) c.self.view_is in
    let same : map entry_view c.as_slice.result.now ≡ asked_entries g = ap (map entry_view) c.as_slice.ensures.value ∙ c.in_ok-entries.ensures in
    let entries : c.in_ok-aggregator.aggregator.entries ≡ to_merge (asked_entries g) = c.in_ok-aggregator.ensures ∙ ap to_merge same in (
      subst (λ (t : Collection). HasNoDisagreement merge.by_names t (to_merge (asked_entries g))) types (subst (λ (es : List merge.Entry). HasNoDisagreement merge.by_names c.self.inside.types es) entries c.in-Ok.ensures.agree),
      subst (λ (t : Collection). HasNoCircle merge.by_names t (to_merge (asked_entries g))) types (subst (λ (es : List merge.Entry). HasNoCircle merge.by_names c.self.inside.types es) entries c.in-Ok.ensures.ordered),
    )

pub merge_error-requires-clause-fault : goal.merge_error-requires-clause-fault
merge_error-requires-clause-fault c =
    let g = c.args.self.now in
    let types : c.self.inside.types ≡ g.types = ap (λ (h : Graph). h.types) c.self.view_is in
    let same : map entry_view c.as_slice.result.now ≡ asked_entries g = ap (map entry_view) c.as_slice.ensures.value ∙ c.in_ok-entries.ensures in
    let entries : c.in_ok-aggregator.aggregator.entries ≡ to_merge (asked_entries g) = c.in_ok-aggregator.ensures ∙ ap to_merge same in
    let f : MergeFault = c.in-Err.fault in
    subst (λ (t : Collection). IsFault t (to_merge (asked_entries g)) f) types
    (subst (λ (es : List merge.Entry). IsFault c.self.inside.types es f) entries (is_fault c.self.inside.types c.in_ok-aggregator.aggregator.entries f c.in-Err.ensures.fault))

pub returns-in-Ok-clause-merged : goal.returns-in-Ok-clause-merged
returns-in-Ok-clause-merged c =
    let g = c.args.self.now in
    let types : c.self.inside.types ≡ g.types = ap (λ (h : Graph). h.types) c.self.view_is in
    let same : map entry_view c.as_slice.result.now ≡ asked_entries g = ap (map entry_view) c.as_slice.ensures.value ∙ c.in_ok-entries.ensures in
    let entries : c.in_ok-aggregator.aggregator.entries ≡ to_merge (asked_entries g) = c.in_ok-aggregator.ensures ∙ ap to_merge same in record {
      finished = c.in-Ok.ensures.finished.1;
      entries = c.in-Ok.ensures.finished.0 ∙ entries;
      whole = record {
        merge = subst (λ (t : Collection). IsMerge merge.by_names t (to_merge (asked_entries g)) c.in-Ok.merge.merge) types (subst (λ (es : List merge.Entry). IsMerge merge.by_names c.self.inside.types es c.in-Ok.merge.merge) entries c.in-Ok.ensures.merged);
        ordered = subst (λ (t : Collection). IsWellFormed t) types c.law-2.ensures;
        merged_ordered = subst (λ (t : Collection). IsWellFormed t) c.types-in-Ok.ensures c.law-in-Ok.ensures;
        once = subst (λ (t : Collection). ExportsOnce t) types c.names_law.ensures.interfaces;
        merged_once = subst (λ (t : Collection). ExportsOnce t) c.types.ensures c.names_law-in-Ok.ensures.interfaces;
        held = c.in-Ok.ensures.held;
      };
      listed = subst (λ (t : Collection). AreListedInOrder merge.by_names t (to_merge (asked_entries g)) c.in-Ok.merge.merge) types
          (subst (λ (es : List merge.Entry). AreListedInOrder merge.by_names c.self.inside.types es c.in-Ok.merge.merge) entries
          (c.listed_law.ensures c.self.inside.types c.in_ok-aggregator.aggregator.entries c.in-Ok.merge.merge c.in-Ok.ensures.merged c.in-Ok.ensures.once));
    }

pub returns-in-Ok-clause-kept : goal.returns-in-Ok-clause-kept
returns-in-Ok-clause-kept c =
    let g = c.args.self.now in
    let m = c.in-Ok.merge.merge in
    let types : c.self.inside.types ≡ g.types = ap (λ (h : Graph). h.types) c.self.view_is in
    let same : map entry_view c.as_slice.result.now ≡ asked_entries g = ap (map entry_view) c.as_slice.ensures.value ∙ c.in_ok-entries.ensures in
    let entries : c.in_ok-aggregator.aggregator.entries ≡ to_merge (asked_entries g) = c.in_ok-aggregator.ensures ∙ ap to_merge same in record {
      binds = subst (λ (t : Collection). BindsAsClasses merge.by_names t (to_merge (asked_entries g)) m) types (subst (λ (es : List merge.Entry). BindsAsClasses merge.by_names c.self.inside.types es m) entries c.in-Ok.ensures.bound);
      before = c.in-Ok.ensures.before;
      faults = subst (λ (t : Collection). HasFaultsOfEntries merge.by_names t (to_merge (asked_entries g)) m) types (subst (λ (es : List merge.Entry). HasFaultsOfEntries merge.by_names c.self.inside.types es m) entries c.in-Ok.ensures.faults);
    }

pub returns-in-Ok-clause-agreed : goal.returns-in-Ok-clause-agreed
returns-in-Ok-clause-agreed c =
    let g = c.args.self.now in
    let types : c.self.inside.types ≡ g.types = ap (λ (h : Graph). h.types) c.self.view_is in
    let same : map entry_view c.as_slice.result.now ≡ asked_entries g = ap (map entry_view) c.as_slice.ensures.value ∙ c.in_ok-entries.ensures in
    let entries : c.in_ok-aggregator.aggregator.entries ≡ to_merge (asked_entries g) = c.in_ok-aggregator.ensures ∙ ap to_merge same in
    subst (λ (t : Collection). AllMembersAgree merge.by_names t (to_merge (asked_entries g))) types (subst (λ (es : List merge.Entry). AllMembersAgree merge.by_names c.self.inside.types es) entries c.in-Ok.ensures.agreed)

pub returns-in-Ok-clause-lighter : goal.returns-in-Ok-clause-lighter
returns-in-Ok-clause-lighter c =
    let g = c.args.self.now in
    let m = c.in-Ok.merge.merge in
    let types : c.self.inside.types ≡ g.types = ap (λ (h : Graph). h.types) c.self.view_is in
    let same : map entry_view c.as_slice.result.now ≡ asked_entries g = ap (map entry_view) c.as_slice.ensures.value ∙ c.in_ok-entries.ensures in
    let entries : c.in_ok-aggregator.aggregator.entries ≡ to_merge (asked_entries g) = c.in_ok-aggregator.ensures ∙ ap to_merge same in
    subst (λ (t : Collection). IsLighter t (to_merge (asked_entries g)) m) types (subst (λ (es : List merge.Entry). IsLighter c.self.inside.types es m) entries c.in-Ok.ensures.lighter)
