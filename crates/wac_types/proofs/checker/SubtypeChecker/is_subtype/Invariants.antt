use Rattle.std.proofs.Common.{◌-◌}
use Rattle.wac_types.proofs.lemmas.comparison.Comparing.{Compares}
use Rattle.wac_types.proofs.checker.SubtypeChecker.is_subtype.Given as goal

-- the answers to the questions before the next one rest on those to the others, and the first question on all
abbrev pub invariant-loop-next : goal.invariant-loop-next
invariant-loop-next l = Compares l.fn.at l.fn.bt l.fn.a l.fn.b l.asked l.next

-- no list is longer than a `usize` counts
abbrev pub decreases-loop-next : goal.decreases-loop-next
decreases-loop-next l = 18446744073709551616 - l.next
