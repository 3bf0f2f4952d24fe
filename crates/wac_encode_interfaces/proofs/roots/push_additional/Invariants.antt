use Rattle.std.proofs.Common.{◌≡◌, ◌++◌, drop, flat_map}
use Rattle.wac_encode_interfaces.specs.private.Roots.{additional_roots}
use Rattle.wac_encode_interfaces.proofs.roots.push_additional.Given as goal

abbrev pub invariant-loop-i : goal.invariant-loop-i
invariant-loop-i l = l.found.items ++ flat_map (additional_roots l.fn.types) (drop l.i l.fn.interfaces) ≡ l.initial.found.items ++ flat_map (additional_roots l.fn.types) l.fn.interfaces
