use Rattle.std.proofs.Common.{◌≡◌, length}
use Rattle.wac_merge_classes.specs.private.entries.Ways.{HaveWays}
use Rattle.wac_merge_classes.proofs.entries.outward.outward_in.Given as goal

abbrev pub invariant-loop-position : goal.invariant-loop-position
invariant-loop-position l = (length l.outward.items ≡ l.position) × HaveWays l.scopes l.bound l.outward.items
