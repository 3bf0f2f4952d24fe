use Rattle.std.proofs.Common.{ap, sym, ◌∙◌, Ok}
use Rattle.wac_graph_model.specs.nodes.Nodes.{kind_of}
use Rattle.wac_graph_model.proofs.lemmas.nodes.NodeLemmas.{there}
use Rattle.wac_graph_fields.proofs.TakingLemmas.{unexported, invariant_forgotten, still_definition, no_definition}
use Rattle.wac_graph.specs.private.Inside.{fields_of}
use Rattle.wac_graph_model.proofs.lemmas.nodes.ValidLemmas.{valid_unexported}
use Rattle.wac_graph.proofs.graph.CompositionGraph.unexport.Goals as goal

pub index-requires : goal.index-requires
index-requires c = there c.self.inside.nodes.slots c.args.node.0 (rw (← c.self.view_is) at c.requires)

pub returns-in-Definition-clause-step : goal.returns-in-Definition-clause-step
returns-in-Definition-clause-step c = rw (← c.self.view_is) (still_definition (fields_of c.self.inside) c.args.node c.index.result.now c.index.ensures (ap kind_of (sym c.kind.ensures ∙ c.in-Definition.is)))

pub invariant_of-self : goal.invariant_of-self
invariant_of-self c = invariant_forgotten (fields_of c.self.inside) c.args.node c.clear_export_name.new.nodes c.take_exports.new.exports c.index.result.now c.index.ensures c.clear_export_name.ensures c.take_exports.ensures c.self.invariant (no_definition c.index.result.now.kind (λ is. c.in_default.not-Definition (c.kind.ensures ∙ is))) c.unmark.new.self c.unmark.ensures.others

pub returns-clause-step : goal.returns-clause-step
returns-clause-step c =
    rw (← c.self.view_is) (unexported (fields_of c.self.inside) c.args.node c.clear_export_name.new.nodes c.take_exports.new.exports c.index.result.now c.index.ensures c.clear_export_name.ensures c.take_exports.ensures (no_definition c.index.result.now.kind (λ is. c.in_default.not-Definition (c.kind.ensures ∙ is))))

pub returns-clause-valid : goal.returns-clause-valid
returns-clause-valid c = valid_unexported c.args.self.now _ c.args.node (Ok tt) c.requires (returns-clause-step c)
