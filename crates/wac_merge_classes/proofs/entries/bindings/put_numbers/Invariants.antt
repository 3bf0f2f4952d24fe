use Rattle.std.proofs.Common.{take}
use Rattle.wac_merge_classes.specs.entries.Bindings.{numbered}
use Rattle.wac_merge_classes.specs.entries.Places.{Adds}
use Rattle.wac_merge_classes.proofs.entries.bindings.put_numbers.Given as goal

abbrev pub invariant-loop-i : goal.invariant-loop-i
invariant-loop-i l = Adds l.initial.firsts.entries (numbered l.number (take l.i l.bound)) l.firsts.entries
