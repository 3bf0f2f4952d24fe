use Rattle.std.proofs.Common.{◌≡◌, ◌+◌, ◌∷◌, ◌⊎◌, true, false, length}
use Rattle.std.proofs.Math.ListN.{drop}
use Rattle.wac_encode_scopes.specs.Books.{opened}
use Rattle.wac_encode_scopes.specs.States.{outward, named_in}
use Rattle.wac_encode_scopes.proofs.Looked.{PassedBy, EachPasses}
use Rattle.wac_encode_scopes.proofs.state.State.find_named.Given as goal

abbrev pub invariant-loop-left : goal.invariant-loop-left
invariant-loop-left l = record {
  counted : l.left + l.out ≡ length l.self.around.items;
  passed : PassedBy (named_in l.definition) (opened l.merged l.self.here ∷ outward l.merged (drop l.left l.self.around.items));
  crossed : l.crosses ≡ true → (l.is_closed ≡ true) ⊎ EachPasses (opened l.merged l.self.here ∷ outward l.merged (drop l.left l.self.around.items));
  stopped : l.crosses ≡ false → (l.is_closed ≡ false) × (EachPasses (opened l.merged l.self.here ∷ outward l.merged (drop l.left l.self.around.items)) → ⊥);
}

abbrev pub decreases-loop-left : goal.decreases-loop-left
decreases-loop-left l = l.left
