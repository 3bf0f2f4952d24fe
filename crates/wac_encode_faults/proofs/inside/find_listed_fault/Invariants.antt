use Rattle.std.proofs.Common.{take}
use Rattle.wac_encode_faults.specs.Faults.{IsLowest, IsFaultOfListed}
use Rattle.wac_encode_faults.proofs.inside.find_listed_fault.Given as goal

abbrev pub invariant-loop-i : goal.invariant-loop-i
invariant-loop-i l = IsLowest (IsFaultOfListed (take l.i l.fn.items)) l.lowest
