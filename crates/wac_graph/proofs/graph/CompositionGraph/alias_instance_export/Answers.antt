use Rattle.wac_graph_model.specs.nodes.Steps.{Aliases}
use Rattle.wac_graph_model.specs.nodes.Graph.{node_at}
use Rattle.wac_graph_model.specs.declared.nodes.errors.AliasError.TheVariants.{OutOfMemory}
use Rattle.std.proofs.Common.{◌≡◌, Ok}
use Rattle.wac_graph.proofs.CheckedLemmas.{handed_on, whatever}
use Rattle.wac_graph_model.proofs.lemmas.nodes.ValidLemmas.{valid_aliased, valid_same}
use Rattle.wac_graph.proofs.graph.CompositionGraph.alias_instance_export.Goals as goal

pub alias_at-requires-clause-export : goal.alias_at-requires-clause-export
alias_at-requires-clause-export c = (c.args.export.now, c.in_ok-position.ensures.found)

pub returns-in_err-alias-clause-step : goal.returns-in_err-alias-clause-step
returns-in_err-alias-clause-step c =
    handed_on (λ r. Aliases c.args.self.now c.args.instance c.args.export.now r c.alias_at.new.self) c.from_residual-in_err-alias.result OutOfMemory c.from_residual-in_err-alias.ensures.1
    (whatever (node_at c.args.self.now c.args.instance) (c.alias_at.new.self ≡ c.args.self.now) c.in_err-alias.ensures.kept)

pub returns-clause-step : goal.returns-clause-step
returns-clause-step c = c.in_ok-alias.ensures.step c.args.export.now c.in_ok-position.ensures.found

pub returns-clause-valid : goal.returns-clause-valid
returns-clause-valid c = valid_aliased c.args.self.now _ c.args.instance c.args.export.now (Ok c.in_ok-alias.alias) c.requires (returns-clause-step c)

pub returns-in_err-alias-clause-valid : goal.returns-in_err-alias-clause-valid
returns-in_err-alias-clause-valid c = valid_same c.args.self.now _ c.in_err-alias.ensures.kept
