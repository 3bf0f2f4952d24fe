use Rattle.std.proofs.Common.{rules, ◌≡◌, slice_get, Some, inl, sym, ◌∙◌, subst}
use Rattle.wac_merge_tables.specs.private.tables.NodeViews.{node_view}
use Rattle.wac_merge_tables.specs.contracts.tables.nodes.NodePartialEq.TheImpl as NodeEq
use Rattle.wac_merge_tables.proofs.lemmas.tables.NodeKeys.{same_node, node_itself}
use Rattle.wac_merge_tables.proofs.lemmas.tables.NodeAdding.{found_at}
use Rattle.wac_merge_tables.proofs.tables.nodes.Nodes.add_found.Goals as goal

pub returns-in-Some-clause-added : goal.returns-in-Some-clause-added
returns-in-Some-clause-added c =
    let there = found_at node_view (NodeEq.ghosts).eq same_node node_itself c.self.inside.nodes.keys c.args.node c.in-Some.number (sym c.in-Some.ensures.index) in
    let same : c.keep_fields.new.self ≡ c.args.self.now = search rules in
    (subst (λ ns. slice_get ns c.in-Some.number ≡ Some (node_view c.args.node)) (c.self.view_is ∙ sym same) there, inl same)
