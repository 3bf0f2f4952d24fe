use Rattle.wac_graph.proofs.ListedLemmas.{arguments_are}
use Rattle.wac_graph.proofs.graph.CompositionGraph.get_instantiation_arguments.Goals as goal

pub returns : goal.returns
returns c = arguments_are c.args.self.now c.args.id c.imports_of_node.result c.imports_of_node.ensures
