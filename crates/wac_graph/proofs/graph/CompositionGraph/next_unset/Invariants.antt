use Rattle.std.proofs.Common.{◌≡◌, ◌-◌}
use Rattle.wac_graph_fields.specs.private.ImportsLeft.{instantiations_left}
use Rattle.wac_graph.proofs.graph.CompositionGraph.next_unset.Given as goal

abbrev pub invariant-loop-n : goal.invariant-loop-n
invariant-loop-n l = instantiations_left l.self l.fn.number l.fn.position (l.end - l.fn.number) ≡ instantiations_left l.self l.n l.from (l.end - l.n)
