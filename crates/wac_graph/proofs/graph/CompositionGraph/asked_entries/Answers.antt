use Rattle.std.proofs.Common.{◌++◌, ◌∙◌, subst}
use Rattle.wac_graph_model.specs.nodes.Asked.{asked}
use Rattle.wac_graph_fields.specs.private.EntriesLeft.{entries_of, all_asked_by, all_with_used, AsksAlike}
use Rattle.wac_graph_fields.proofs.EntryLists.{stands_once}
use Rattle.wac_graph_fields.proofs.AskingTasks.{nothing_settled}
use Rattle.wac_graph_reader.proofs.lemmas.writing.AskingWalk.{both_asked}
use Rattle.wac_graph.proofs.graph.CompositionGraph.asked_entries.Goals as goal

pub ask_instantiations-requires-clause-settled : goal.ask_instantiations-requires-clause-settled
ask_instantiations-requires-clause-settled c = nothing_settled c.args.self.now.types c.new-asking.result c.new-asking.ensures.empty c.new-asking.ensures.visited

pub returns : goal.returns
returns c =
    let g = c.args.self.now in
    let mid = entries_of c.ask_instantiations.new.asking in
    let all = entries_of c.ask_nodes.new.asking in
    let first = subst (λ es. AsksAlike g.types (es ++ all_with_used g.types (all_asked_by g)) mid) c.new-asking.ensures.empty c.in_ok-ask_instantiations.ensures.stands in
    c.into_entries.ensures ∙ stands_once g.types (all_with_used g.types (asked g)) all (both_asked g mid all first c.in_ok-ask_nodes.ensures.stands) c.in_ok-ask_nodes.ensures.right.apart
