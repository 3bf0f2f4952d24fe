use Rattle.std.specs.Prelude.{◌-◌, length}
use Rattle.wac_encode_order.proofs.Merges.{Below}
use Rattle.wac_encode_order.proofs.side.add_below.Given as goal

abbrev pub invariant-numbers : goal.invariant-numbers
invariant-numbers l = Below l.fn.order.items l.order.items l.numbers l.end l.next l.at

abbrev pub decreases-numbers : goal.decreases-numbers
decreases-numbers l = length l.numbers - l.at
