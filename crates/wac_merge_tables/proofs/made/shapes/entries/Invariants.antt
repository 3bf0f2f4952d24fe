use Rattle.std.proofs.Common.{◌≡◌, take}
use Rattle.wac_merge_tables.specs.made.Shapes.{pairs}
use Rattle.wac_merge_tables.proofs.made.shapes.entries.Given as goal

abbrev pub invariant-loop-i : goal.invariant-loop-i
invariant-loop-i g l = pairs l.entries.items ≡ take l.i l.named
