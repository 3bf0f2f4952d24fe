use Rattle.std.proofs.Common.{take}
use Rattle.wac_encode_faults.specs.Faults.{IsLowest}
use Rattle.wac_encode_faults.specs.private.Roots.{IsFaultOfOne}
use Rattle.wac_encode_faults.proofs.nested.find_fault_of_types.Given as goal

abbrev pub invariant-loop-i : goal.invariant-loop-i
invariant-loop-i l = IsLowest (IsFaultOfOne l.fn.types (take l.i l.fn.scopes.keys)) l.lowest
