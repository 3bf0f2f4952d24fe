use Rattle.std.proofs.Common.{◌≡◌, map, take}
use Rattle.wac_types_collection.proofs.lemmas.subtyping.Telling.{bytes}
use Rattle.wac_merge_trees.proofs.coding.coder.names.Given as goal

abbrev pub invariant-loop-i : goal.invariant-loop-i
invariant-loop-i l = map bytes l.names.items ≡ take l.i l.labels
