use Rattle.std.proofs.Common.{take}
use Rattle.wac_merge_unions.specs.uses.Using.{HaveMore}
use Rattle.wac_merge_unions.proofs.uses.nested.put_listed.Given as goal

abbrev pub invariant-loop-i : goal.invariant-loop-i
invariant-loop-i l = HaveMore l.listed (take l.i l.others) l.fn.lists.items l.lists.items
