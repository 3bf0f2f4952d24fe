use Rattle.wac_encode_tests.proofs.RootMerges.{HasNoFaultBefore}
use Rattle.wac_encode_tests.proofs.merged.assert_no_faults.Given as goal

abbrev pub invariant-loop-i : goal.invariant-loop-i
invariant-loop-i g l = HasNoFaultBefore l.fn.items.types (l.fn.merge).entries l.i
