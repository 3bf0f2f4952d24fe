use Rattle.std.proofs.Common.{◌≡◌, length}
use Rattle.wac_merge_trees.proofs.coding.listings.unlisted.Given as goal

abbrev pub invariant-loop : goal.invariant-loop
invariant-loop l = length l.listings.items ≡ l.counter
