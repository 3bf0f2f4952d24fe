use Rattle.std.proofs.Common.{◌≡◌, [], take}
use Rattle.wac_merge_unions.specs.uses.KeptUses.{uses_of}
use Rattle.wac_merge_unions.specs.uses.Using.{keep_from}
use Rattle.wac_merge_unions.proofs.uses.uses.kept_uses.Given as goal

abbrev pub invariant-loop-i : goal.invariant-loop-i
invariant-loop-i l = l.uses ≡ keep_from l.asked l.place [] (uses_of l.asked.types.now (take l.i l.interfaces))
