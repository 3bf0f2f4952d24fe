use Rattle.std.proofs.Common.{◌≡◌, length}
use Rattle.wac_encode_imports.proofs.told.no_others.Given as goal

abbrev pub invariant-loop-i : goal.invariant-loop-i
invariant-loop-i l = length l.others.items ≡ l._i
