use Rattle.std.proofs.Common.{◌≡◌, take}
use Rattle.wac_types_collection.specs.subtyping.CalledViews.{path_view}
use Rattle.wac_merge_classes.proofs.entries.naming.copied.Given as goal

abbrev pub invariant-loop-i : goal.invariant-loop-i
invariant-loop-i l = path_view l.copy.items ≡ path_view (take l.i l.path)
