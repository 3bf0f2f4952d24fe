use Rattle.std.proofs.Common.{ℕ, List, Some, sym, ap, ◌∙◌}
use Rattle.std.specs.Prelude.{slice_get}
use Rattle.wac_graph_fields.specs.declared.asked.AskedEntry.{AskedEntry}
use Rattle.wac_graph_model.specs.nodes.Asked.{Entry}
use Rattle.wac_graph_model.specs.nodes.Entries.{asked_entries}
use Rattle.wac_graph_fields.specs.private.EntriesLeft.{entry_view}
use Rattle.wac_edges.specs.Edge.{node_number}
use Rattle.wac_graph_encode.proofs.lemmas.places.MergeLemmas.{entry_at, explicit_refused, implicit_refused, index_there, mapped_within}
use Rattle.wac_graph.proofs.graph.CompositionGraph.disagreement.Goals as goal

pub returns-then-is_some : goal.returns-then-is_some
returns-then-is_some c = λ o.
    let g = c.args.self.now in
    let es : List AskedEntry = c.args.entries.now in
    let p : ℕ = c.args.first in
    let q : ℕ = c.args.second in
    let d = c.requires.disagree in
    let a = entry_at (asked_entries g) p d.is_first.disagree.earlier d.is_first.disagree.at_first in
    let b = entry_at (asked_entries g) q d.is_first.disagree.later d.is_first.disagree.at_second in
    let at_a = sym (ap (λ (xs : List Entry). slice_get xs p) c.requires.entries) ∙ index_there entry_view es p _ (mapped_within entry_view es p a.0 (ap (λ (xs : List Entry). slice_get xs p) c.requires.entries ∙ a.1)) in
    let at_b = sym (ap (λ (xs : List Entry). slice_get xs q) c.requires.entries) ∙ index_there entry_view es q _ (mapped_within entry_view es q b.0 (ap (λ (xs : List Entry). slice_get xs q) c.requires.entries ∙ b.1)) in
    explicit_refused g o c.requires.acyclic c.requires.apart p q _ d _ _ at_a at_b c.in_ok-import.import c.in_ok-import.ensures.ok (λ r. (r.0.now, r.1, Some (node_number _))) c.import_node_at.result c.import_node_at.ensures (sym c.is_some.ensures ∙ c.if-is_some.true)

pub returns : goal.returns
returns c = λ o.
    let g = c.args.self.now in
    let es : List AskedEntry = c.args.entries.now in
    let p : ℕ = c.args.first in
    let q : ℕ = c.args.second in
    let d = c.requires.disagree in
    let a = entry_at (asked_entries g) p d.is_first.disagree.earlier d.is_first.disagree.at_first in
    let b = entry_at (asked_entries g) q d.is_first.disagree.later d.is_first.disagree.at_second in
    let at_a = sym (ap (λ (xs : List Entry). slice_get xs p) c.requires.entries) ∙ index_there entry_view es p _ (mapped_within entry_view es p a.0 (ap (λ (xs : List Entry). slice_get xs p) c.requires.entries ∙ a.1)) in
    let at_b = sym (ap (λ (xs : List Entry). slice_get xs q) c.requires.entries) ∙ index_there entry_view es q _ (mapped_within entry_view es q b.0 (ap (λ (xs : List Entry). slice_get xs q) c.requires.entries ∙ b.1)) in
    implicit_refused g o c.requires.acyclic c.requires.apart p q c.args.export d _ _ at_a at_b c.in_ok-import.import c.in_ok-import.ensures.ok (λ r. (r.0.now, r.1, Some (node_number _))) c.import_node_at.result c.import_node_at.ensures (sym c.is_some.ensures ∙ c.if-is_some.false)
