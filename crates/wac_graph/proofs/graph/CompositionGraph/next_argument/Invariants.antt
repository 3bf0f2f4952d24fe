use Rattle.std.proofs.Common.{◌≡◌}
use Rattle.wac_graph.specs.private.Left.{set_from}
use Rattle.wac_graph.proofs.graph.CompositionGraph.next_argument.Given as goal

abbrev pub invariant-loop-i : goal.invariant-loop-i
invariant-loop-i l = set_from l.self l.instantiation l.imports l.fn.from ≡ set_from l.self l.instantiation l.imports l.i
