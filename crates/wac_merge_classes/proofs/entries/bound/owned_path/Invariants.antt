use Rattle.std.proofs.Common.{◌≡◌, take}
use Rattle.wac_types_collection.specs.subtyping.CalledViews.{path_view}
use Rattle.wac_merge_classes.specs.entries.Places.{given_path}
use Rattle.wac_merge_classes.proofs.entries.bound.owned_path.Given as goal

abbrev pub invariant-loop-i : goal.invariant-loop-i
invariant-loop-i l = path_view l.path.items ≡ given_path (take l.i l.names)
