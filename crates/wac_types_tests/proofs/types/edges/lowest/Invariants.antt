use Rattle.wac_edges.specs.cycles.Cycles.{AreWithin}
use Rattle.wac_types_tests.proofs.types.edges.lowest.Given as goal

abbrev pub invariant-loop-step : goal.invariant-loop-step
invariant-loop-step l = AreWithin l.targets.items
