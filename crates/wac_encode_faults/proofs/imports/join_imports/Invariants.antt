use Rattle.std.proofs.Common.{◌≡◌, ◌++◌, take, flat_map}
use Rattle.wac_encode_faults.specs.Sides.{under_id}
use Rattle.wac_encode_faults.proofs.imports.join_imports.Given as goal

abbrev pub invariant-loop-i : goal.invariant-loop-i
invariant-loop-i l = l.all ≡ l.fn.imports ++ flat_map (under_id l.fn.types) (take l.i l.fn.additional)
