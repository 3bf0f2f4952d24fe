use Rattle.std.proofs.Common.{Contains}
use Rattle.wac_encode_faults.proofs.Dependencies.{AllBefore}
use Rattle.wac_encode_faults.proofs.unbound.has_missing.Given as goal

abbrev pub invariant-loop-i : goal.invariant-loop-i
invariant-loop-i l = AllBefore (Contains l.fn.bound.keys) l.fn.resources.keys l.i
