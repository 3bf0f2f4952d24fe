use Rattle.std.proofs.Common.{◌≡◌, take}
use Rattle.wac_merge_unions.specs.uses.Using.{placed_from}
use Rattle.wac_merge_unions.proofs.uses.nested.placed_items.Given as goal

abbrev pub invariant-loop-j : goal.invariant-loop-j
invariant-loop-j l = l.items ≡ placed_from l.places l.done 0 (take l.j l.listed)
