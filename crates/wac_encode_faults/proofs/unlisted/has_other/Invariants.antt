use Rattle.std.proofs.Common.{Contains}
use Rattle.wac_encode_faults.proofs.Dependencies.{AllBefore}
use Rattle.wac_encode_faults.proofs.unlisted.has_other.Given as goal

abbrev pub invariant-loop-i : goal.invariant-loop-i
invariant-loop-i l = AllBefore (Contains l.fn.listed.keys) l.fn.interfaces.keys l.i
