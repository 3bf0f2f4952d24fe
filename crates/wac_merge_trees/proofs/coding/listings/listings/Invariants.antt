use Rattle.std.proofs.Common.{◌≡◌, ◌≤◌, length}
use Rattle.wac_merge_trees.specs.private.coding.Coding.{IsGrown}
use Rattle.wac_merge_trees.specs.private.coding.Listings.{AreListings}
use Rattle.wac_merge_trees.proofs.coding.listings.listings.Given as goal

abbrev pub invariant-loop-position : goal.invariant-loop-position
invariant-loop-position l = record {
  counted : length l.listings.items ≡ length l.source.calls.now.scopes.now;
  within : l.position ≤ length l.source.calls.now.scopes.now;
  grown : IsGrown l.fn.nodes l.nodes;
  listings : AreListings l.nodes l.source.types.now l.source.calls.now l.position l.listings.items;
}

abbrev pub decreases-loop-position : goal.decreases-loop-position
decreases-loop-position l = l.position
