use Rattle.std.proofs.Common.{take}
use Rattle.wac_encode_tests.specs.private.Stacks.{MayWriteAll}
use Rattle.wac_encode_tests.proofs.stacks.may_write_all.Given as goal

abbrev pub invariant-loop-i : goal.invariant-loop-i
invariant-loop-i l = MayWriteAll l.types l.state (take l.i l.params)
