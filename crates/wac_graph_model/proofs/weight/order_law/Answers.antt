use Rattle.wac_graph_model.proofs.lemmas.weight.WrittenPaid.{order-fits, node-is-part, components-are-part, component-is-paid, names-are-part}
use Rattle.wac_graph_model.proofs.weight.order_law.Goals as goal

pub returns-clause-fits : goal.returns-clause-fits
returns-clause-fits c = order-fits

pub returns-clause-part : goal.returns-clause-part
returns-clause-part c = node-is-part

pub returns-clause-names : goal.returns-clause-names
returns-clause-names c = names-are-part

pub returns-clause-components : goal.returns-clause-components
returns-clause-components c = components-are-part

pub returns-clause-component : goal.returns-clause-component
returns-clause-component c = component-is-paid
