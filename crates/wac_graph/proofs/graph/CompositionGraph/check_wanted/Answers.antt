use Rattle.std.proofs.Common.{◌≡◌, ◌<◌, ℕ, Bool, List, Some, map, length, get_or, ap, sym, ◌∙◌, subst, arith}
use Rattle.std.specs.Prelude.{slice_get}
use Rattle.std.specs.Option.{option_map}
use Rattle.std.proofs.lemmas.Option.{slice_get-map, slice_get_read, slice_get_within}
use Rattle.std.proofs.lemmas.List.{length-map}
use Rattle.wac_types_collection.specs.collection.Collection.{IsWellFormed}
use Rattle.wac_edges.specs.Edge.{node_number}
use Rattle.wac_graph_model.specs.declared.nodes.options.EncodeOptions.{EncodeOptions}
use Rattle.wac_graph_model.specs.nodes.Asked.{Entry}
use Rattle.wac_graph_model.specs.nodes.Graph.{Graph}
use Rattle.wac_graph_fields.specs.declared.asked.AskedEntry.{AskedEntry}
use Rattle.wac_graph_fields.specs.private.EntriesLeft.{entry_view, IsHeldKind}
use Rattle.wac_encode_faults.specs.Faults.{IsLowest}
use Rattle.wac_graph_model.specs.causes.TypeFaults.{wanted_entries, IsEntryFault, IsTypeFault}
use Rattle.wac_graph_reader.proofs.lemmas.writing.AskedHeld.{held_wanted}
use Rattle.wac_graph_reader.proofs.lemmas.writing.CauseLemmas.{at_type_fault}
use Rattle.wac_graph_encode.proofs.lemmas.places.MergeLemmas.{all_slice}
use Rattle.wac_graph_reader.proofs.lemmas.writing.WantedLemmas.{none_before_next, first_fault}
use Rattle.wac_graph.proofs.graph.CompositionGraph.check_wanted.Goals as goal

-- what is read at a position is the entry there
entry_there : (items : List AskedEntry) (es : List Entry) (n i : ℕ) (x : AskedEntry) → n ≡ length items → i < n → x ≡ get_or items i x → map entry_view items ≡ es → slice_get es i ≡ Some (entry_view x)
entry_there items es n i x count low is all = sym (ap (λ (ys : List Entry). slice_get ys i) all) ∙ (slice_get-map entry_view items i ∙ ap (option_map entry_view) (slice_get_read items n i x count low is))

pub entry_fault-requires-clause-held : goal.entry_fault-requires-clause-held
entry_fault-requires-clause-held c =
    let g = c.args.self.now in
    let d = c.args.define_components in
    let wf : IsWellFormed g.types = subst (λ (h : Graph). IsWellFormed h.types) c.self.view_is c.law-2.ensures in
    let counted = c.len-i-end.ensures in
    let whole = c.in_ok-wanted.wanted.ok in
    let at = entry_there c.in_ok-wanted.wanted.items (wanted_entries g d) c.len-i-end.result c.loop-i.i c.index-entry.result.now (omega (arith, counted, whole)) c.loop-i-test.true c.index-entry.ensures c.in_ok-wanted.ensures in
    all_slice (λ (e : Entry). IsHeldKind g.types e.kind) (wanted_entries g d) c.loop-i.i (entry_view c.index-entry.result.now) (held_wanted g c.law.ensures wf d) at

pub loop-i-init : goal.loop-i-init
loop-i-init c = record {
  none = λ i e f l is h. absurd (omega (arith, l));
  faultless = c.new-faultless.ensures c.args.self.now.types c.args.bound.now.keys;
}

pub loop-i-preserved : goal.loop-i-preserved
loop-i-preserved c =
    let g = c.args.self.now in
    let d = c.args.define_components in
    let x = entry_view c.index-entry.result.now in
    let counted = c.len-i-end.ensures in
    let whole = c.in_ok-wanted.wanted.ok in
    let at = entry_there c.in_ok-wanted.wanted.items (wanted_entries g d) c.len-i-end.result c.loop-i.i c.index-entry.result.now (omega (arith, counted, whole)) c.loop-i-test.true c.index-entry.ensures c.in_ok-wanted.ensures in
    record {
      none = none_before_next g d c.loop-i.i x at (subst (IsLowest (IsEntryFault g x)) c.in_default.is c.in_ok-fault.ensures.lowest) c.loop-i.invariant.none;
      faultless = c.in_ok-fault.ensures.faultless;
    }

pub returns-clause-none : goal.returns-clause-none
returns-clause-none c = λ i e f is h.
    let g = c.args.self.now in
    let d = c.args.define_components in
    let within = slice_get_within (wanted_entries g d) i e is in
    let many : length (wanted_entries g d) ≡ length c.in_ok-wanted.wanted.items = ap length (sym c.in_ok-wanted.ensures) ∙ length-map c.in_ok-wanted.wanted.items entry_view in
    let count = c.len-i-end.ensures in
    let whole = c.in_ok-wanted.wanted.ok in
    let past = c.loop-i-test.false in
    c.loop-i.invariant.none i e f (omega (arith, within, many, count, whole, past)) is h

pub returns-in-Some-clause-refused : goal.returns-in-Some-clause-refused
returns-in-Some-clause-refused c =
    let g = c.args.self.now in
    let d = c.args.define_components in
    let x = entry_view c.index-entry.result.now in
    let counted = c.len-i-end.ensures in
    let whole = c.in_ok-wanted.wanted.ok in
    let at = entry_there c.in_ok-wanted.wanted.items (wanted_entries g d) c.len-i-end.result c.loop-i.i c.index-entry.result.now (omega (arith, counted, whole)) c.loop-i-test.true c.index-entry.ensures c.in_ok-wanted.ensures in
    λ (o : EncodeOptions) is.
    at_type_fault g o (node_number x.node) c.in-Some.fault c.requires.acyclic c.requires.apart c.requires.merges
    (subst (λ (b : Bool). IsTypeFault g b (node_number x.node) c.in-Some.fault) (sym is)
    (first_fault g d c.loop-i.i x c.in-Some.fault at (subst (IsLowest (IsEntryFault g x)) c.in-Some.is c.in_ok-fault.ensures.lowest) c.loop-i.invariant.none))
