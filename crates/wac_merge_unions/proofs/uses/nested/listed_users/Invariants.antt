use Rattle.std.proofs.Common.{take}
use Rattle.wac_merge_unions.specs.uses.Using.{HaveListed}
use Rattle.wac_merge_unions.proofs.uses.nested.listed_users.Given as goal

abbrev pub invariant-loop-i : goal.invariant-loop-i
invariant-loop-i l = HaveListed l.asked.types.now (take l.i l.users) l.listed l.lists.items
