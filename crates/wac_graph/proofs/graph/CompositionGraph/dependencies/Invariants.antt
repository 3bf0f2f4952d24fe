use Rattle.std.proofs.Common.{◌≡◌, ◌++◌, map}
use Rattle.wac_edges.specs.Edge.{node_number}
use Rattle.wac_graph.proofs.graph.CompositionGraph.dependencies.Given as goal

abbrev pub invariant-loop-number : goal.invariant-loop-number
invariant-loop-number l = l.nodes.items ++ map node_number l.number-iterator ≡ map node_number l.initial.number-iterator
