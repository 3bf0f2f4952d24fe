use Rattle.std.proofs.Common.{◌≡◌, ◌++◌, [], ◌∷◌, ap, sym, ◌∙◌, subst}
use Rattle.std.specs.Prelude.{IsSomeAnd}
use Rattle.wac_types_collection.specs.collection.Collection.{Collection}
use Rattle.wac_edges.specs.Edge.{node_number}
use Rattle.wac_graph_model.specs.nodes.Graph as graph
use Rattle.wac_graph_model.specs.nodes.Graph.{Graph, node_at}
use Rattle.wac_graph_model.specs.nodes.Nodes.{kind_of}
use Rattle.wac_graph_model.specs.nodes.Asked.{Entry}
use Rattle.wac_graph_model.specs.nodes.Entries.{with_used}
use Rattle.wac_graph_fields.specs.private.EntriesLeft.{entries_of, AsksAlike}
use Rattle.wac_graph_fields.proofs.AskingTasks.{on_ok}
use Rattle.wac_graph_model.specs.causes.TypeFaults.{wanted_at}
use Rattle.wac_graph_reader.proofs.lemmas.writing.AskingWalk.{one_number}
use Rattle.wac_graph_reader.proofs.lemmas.writing.WantedLemmas.{none_wanted, node_wanted, is_instantiation, nothing_wanted}
use Rattle.wac_graph_reader.proofs.lemmas.writing.WriteDefinitionLemmas.{item_held}
use Rattle.wac_graph.specs.private.Inside.{fields_of}
use Rattle.wac_graph.proofs.graph.CompositionGraph.ask_wanted.Goals as goal

pub returns-in_default-clause-stands : goal.returns-in_default-clause-stands
returns-in_default-clause-stands c =
    let g = c.args.self.now in
    let n = c.args.n in
    let d = c.args.define_components in
    nothing_wanted g.types (entries_of c.args.asking.now) (wanted_at g d n) (subst (λ (h : Graph). wanted_at h d n ≡ []) c.self.view_is (none_wanted (fields_of c.self.inside) d n (sym c.in_default.ensures)))

pub returns-in-Alias-clause-stands : goal.returns-in-Alias-clause-stands
returns-in-Alias-clause-stands c =
    let g = c.args.self.now in
    let n = c.args.n in
    let d = c.args.define_components in
    nothing_wanted g.types (entries_of c.args.asking.now) (wanted_at g d n)
    (subst (λ (h : Graph). wanted_at h d n ≡ []) c.self.view_is (node_wanted (fields_of c.self.inside) d n c.in-Some.node.now (sym c.in-Some.ensures) graph.alias (ap kind_of (sym c.kind.ensures ∙ c.in-Alias.is))))

pub ask_instance-requires-clause-instantiation : goal.ask_instance-requires-clause-instantiation
ask_instance-requires-clause-instantiation c =
    subst (λ (h : Graph). IsSomeAnd (node_at h (node_number c.args.n)) (λ node. node.kind ≡ graph.instantiation)) c.self.view_is
    (is_instantiation (fields_of c.self.inside) c.args.n c.in-Some.node.now (sym c.in-Some.ensures) (ap kind_of (sym c.kind.ensures ∙ c.in-Instantiation.is)))

pub ask-requires-clause-held : goal.ask-requires-clause-held
ask-requires-clause-held c = rw c.item_kind-kind.ensures (item_held (fields_of c.self.inside) c.self.invariant c.args.n c.in-Some.node.now (sym c.in-Some.ensures))

pub ask-requires-in-Definition-clause-held : goal.ask-requires-in-Definition-clause-held
ask-requires-in-Definition-clause-held c = rw c.item_kind-kind.ensures (item_held (fields_of c.self.inside) c.self.invariant c.args.n c.in-Some.node.now (sym c.in-Some.ensures))

pub returns-in-Import-clause-stands : goal.returns-in-Import-clause-stands
returns-in-Import-clause-stands c =
    let g = c.args.self.now in
    let n = c.args.n in
    let d = c.args.define_components in
    let old = entries_of c.args.asking.now in
    let new = entries_of c.ask.new.self in
    let e : Entry = record { name = c.as_str-name.result.now; kind = (c.in-Some.node.now).item_kind; node = n } in
    let types : c.self.inside.types ≡ g.types = ap (λ (h : Graph). h.types) c.self.view_is in
    let is : wanted_at g d n ≡ e ∷ [] = subst (λ (h : Graph). wanted_at h d n ≡ e ∷ []) c.self.view_is
    (node_wanted (fields_of c.self.inside) d n c.in-Some.node.now (sym c.in-Some.ensures) (graph.import c.as_str-name.result.now) (ap kind_of (sym c.kind.ensures ∙ c.in-Import.is) ∙ ap graph.import (sym c.as_str-name.ensures.value))) in
    on_ok c.ask.result (λ s. one_number g.types old new e (wanted_at g d n) is (subst (λ (t : Collection). AsksAlike t (old ++ with_used t e) new) types s)) (rw c.item_kind-kind.ensures at c.ask.ensures.stands)

pub returns-in-Definition-clause-stands : goal.returns-in-Definition-clause-stands
returns-in-Definition-clause-stands c =
    let g = c.args.self.now in
    let n = c.args.n in
    let d = c.args.define_components in
    let old = entries_of c.args.asking.now in
    let new = entries_of c.ask-in-Definition.new.self in
    let e : Entry = record { name = []; kind = (c.in-Some.node.now).item_kind; node = n } in
    let types : c.self.inside.types ≡ g.types = ap (λ (h : Graph). h.types) c.self.view_is in
    let is : wanted_at g d n ≡ e ∷ [] = subst (λ (h : Graph). wanted_at h d n ≡ e ∷ []) c.self.view_is (node_wanted (fields_of c.self.inside) d n c.in-Some.node.now (sym c.in-Some.ensures) graph.definition (ap kind_of (sym c.kind.ensures ∙ c.in-Definition.is))) in
    on_ok c.ask-in-Definition.result (λ s. one_number g.types old new e (wanted_at g d n) is (subst (λ (t : Collection). AsksAlike t (old ++ with_used t e) new) types s)) (rw c.item_kind-kind.ensures at c.ask-in-Definition.ensures.stands)
