use Rattle.std.proofs.Common.{◌≡◌, ◌++◌, drop}
use Rattle.wac_encode_interfaces.specs.private.InnerTypes.{interfaces_and_worlds, enter_all}
use Rattle.wac_encode_interfaces.proofs.inside.push_items.Given as goal

abbrev pub invariant-loop-i : goal.invariant-loop-i
invariant-loop-i l = l.pending.items ++ enter_all (interfaces_and_worlds (drop l.i l.fn.items)) ≡ l.initial.pending.items ++ enter_all (interfaces_and_worlds l.fn.items)
