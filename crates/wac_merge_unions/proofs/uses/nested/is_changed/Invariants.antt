use Rattle.std.proofs.Common.{◌≡◌, take}
use Rattle.wac_merge_unions.specs.uses.Using.{placed_from}
use Rattle.wac_merge_unions.proofs.uses.nested.is_changed.Given as goal

abbrev pub invariant-loop-j : goal.invariant-loop-j
invariant-loop-j l = placed_from l.places l.done 0 (take l.j l.listed) ≡ take l.j l.listed
