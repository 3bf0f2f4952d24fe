use Rattle.std.proofs.Common.{◌≡◌, length}
use Rattle.wac_merge_resources.specs.private.renaming.Ways.{HaveWays}
use Rattle.wac_merge_resources.proofs.renaming.outward.outward_in.Given as goal

abbrev pub invariant-loop-position : goal.invariant-loop-position
invariant-loop-position l = (length l.outward.items ≡ l.position) × HaveWays l.parts l.bound l.outward.items
