use Rattle.std.proofs.Common.{◌≡◌}
use Rattle.wac_graph.specs.private.Left.{packages_left}
use Rattle.wac_graph.proofs.iterators.first_package.Given as goal

abbrev pub invariant-loop-i : goal.invariant-loop-i
invariant-loop-i l = packages_left l.slots l.fn.from ≡ packages_left l.slots l.i
