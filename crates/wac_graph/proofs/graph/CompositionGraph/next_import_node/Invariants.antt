use Rattle.std.proofs.Common.{◌≡◌, ◌-◌}
use Rattle.wac_graph_fields.specs.private.ImportsLeft.{nodes_left}
use Rattle.wac_graph.proofs.graph.CompositionGraph.next_import_node.Given as goal

abbrev pub invariant-loop-n : goal.invariant-loop-n
invariant-loop-n l = nodes_left l.self l.fn.from (l.end - l.fn.from) ≡ nodes_left l.self l.n (l.end - l.n)
