use Rattle.std.proofs.Common.{◌≡◌, take}
use Rattle.wac_types_shapes.specs.shapes.Named.{given_names}
use Rattle.wac_merge_resources.proofs.renaming.renamer.copied.Given as goal

abbrev pub invariant-loop-i : goal.invariant-loop-i
invariant-loop-i l = given_names l.names.items ≡ take l.i l.labels
