use Rattle.std.proofs.Common.{Ok, ap, sym, subst, ◌∙◌}
use Rattle.wac_graph_model.specs.nodes.Definitions.{definition_node}
use Rattle.wac_graph_model.specs.nodes.Steps.{Defines}
use Rattle.wac_graph_fields.specs.private.Definable.{IsDefinable}
use Rattle.wac_graph_model.proofs.lemmas.nodes.ValidLemmas.{definition_is_there, valid_defined}
use Rattle.wac_graph.proofs.graph.CompositionGraph.define_type.Goals as goal

pub add_definition-requires-clause-definable : goal.add_definition-requires-clause-definable
add_definition-requires-clause-definable c = subst (λ t. IsDefinable c.args.self.now t c.args.ty) (sym c.in_ok-key.ensures.ok) c.in_ok-check_definition.ensures

pub add_definition-requires-clause-node : goal.add_definition-requires-clause-node
add_definition-requires-clause-node c = c.in_ok-node.ensures ∙ ap (λ t. definition_node t c.args.ty) (sym c.in_ok-key.ensures.ok)

pub returns-clause-step : goal.returns-clause-step
returns-clause-step c = subst (λ t. Defines c.args.self.now t c.args.ty (Ok c.in_ok-add_definition.field-0) c.add_definition.new.self) c.in_ok-key.ensures.ok c.in_ok-add_definition.ensures.defined

pub returns-clause-there : goal.returns-clause-there
returns-clause-there c = definition_is_there c.args.self.now c.add_definition.new.self c.args.name.now c.args.ty (Ok c.in_ok-add_definition.field-0) (returns-clause-step c)

pub returns-clause-valid : goal.returns-clause-valid
returns-clause-valid c = valid_defined c.args.self.now c.add_definition.new.self c.args.name.now c.args.ty (Ok c.in_ok-add_definition.field-0) (returns-clause-step c)
