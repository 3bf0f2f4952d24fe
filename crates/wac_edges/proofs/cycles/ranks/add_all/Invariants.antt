use Rattle.std.proofs.Common.{◌≡◌, ◌++◌}
use Rattle.wac_edges.proofs.cycles.ranks.add_all.Given as goal

abbrev pub invariant-loop-b : goal.invariant-loop-b
invariant-loop-b l = l.numbers.items ++ l.b-iterator ≡ l.initial.numbers.items ++ l.steps.keys
