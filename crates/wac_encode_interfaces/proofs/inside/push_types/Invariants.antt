use Rattle.std.proofs.Common.{◌≡◌, ◌++◌, drop, flat_map}
use Rattle.wac_encode_interfaces.specs.private.InnerTypes.{interface_or_world, enter_all}
use Rattle.wac_encode_interfaces.proofs.inside.push_types.Given as goal

abbrev pub invariant-loop-i : goal.invariant-loop-i
invariant-loop-i l = l.pending.items ++ enter_all (flat_map interface_or_world (drop l.i l.fn.types)) ≡ l.initial.pending.items ++ enter_all (flat_map interface_or_world l.fn.types)
