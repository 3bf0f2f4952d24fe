use Rattle.std.proofs.Common.{◌≡◌, ◌≤◌, ◌+◌, ◌∷◌, length}
use Rattle.std.proofs.Math.ListN.{drop}
use Rattle.wac_encode_scopes.specs.Books.{opened}
use Rattle.wac_encode_scopes.specs.States.{outward}
use Rattle.wac_encode_scopes.proofs.Outward.{Passed}
use Rattle.wac_encode_scopes.proofs.state.State.find.Given as goal

abbrev pub invariant-loop-left : goal.invariant-loop-left
invariant-loop-left l = record {
  counted : l.left + l.out ≡ length l.self.around.items;
  asked : l.probes ≤ l.out + 1;
  passed : Passed l.resource (opened l.merged l.self.here ∷ outward l.merged (drop l.left l.self.around.items));
}

abbrev pub decreases-loop-left : goal.decreases-loop-left
decreases-loop-left l = l.left
