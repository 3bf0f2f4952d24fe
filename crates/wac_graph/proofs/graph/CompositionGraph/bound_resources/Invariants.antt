use Rattle.std.proofs.Common.{[]}
use Rattle.wac_graph.specs.private.Bound.{IsBoundIn}
use Rattle.wac_graph.proofs.BoundLemmas.{AddsBefore, ImportLists}
use Rattle.wac_graph.proofs.graph.CompositionGraph.bound_resources.Given as goal

abbrev pub invariant-loop-i : goal.invariant-loop-i
invariant-loop-i l = AddsBefore (ImportLists l.self.types) (IsBoundIn l.merge) l.entries [] l.i l.bound.keys
