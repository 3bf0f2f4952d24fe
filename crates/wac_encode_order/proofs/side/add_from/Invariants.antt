use Rattle.std.specs.Prelude.{◌≡◌, ◌++◌, ◌-◌, drop, length}
use Rattle.wac_encode_order.proofs.side.add_from.Given as goal

abbrev pub invariant-numbers : goal.invariant-numbers
invariant-numbers l = l.order.items ++ drop l.at l.numbers ≡ l.fn.order.items ++ drop l.next l.numbers

abbrev pub decreases-numbers : goal.decreases-numbers
decreases-numbers l = length l.numbers - l.at
