use Rattle.std.proofs.Common.{◌≡◌, ◌<◌, ◌⊎◌, inl, inr, ℕ, List, length, arith}
use Rattle.std.specs.Prelude.{◌↔◌}
use Rattle.std.specs.BTreeSet.{BTreeSet}
use Rattle.std.proofs.lemmas.Result.{on_ok_weaker}
use Rattle.wac_edges.specs.cycles.Cycles.{AreWithin, IsStep}
use Rattle.wac_types_tests.proofs.types.edges.add.Goals as goal

within_more : (old new : List (BTreeSet ℕ)) (from to : ℕ) → length new ≡ length old → to < length old → AreWithin old
    → ((a b : ℕ) → (IsStep new a b ↔ (IsStep old a b ⊎ ((a ≡ from) × (b ≡ to))))) → AreWithin new
within_more old new from to same low within steps a b l = split ((steps a b).0 l) where
  split : IsStep old a b ⊎ ((a ≡ from) × (b ≡ to)) → b < length new
  split (inl was) = let less : b < length old = within a b was in omega (arith, less, same)
  split (inr (_, is)) = omega (arith, low, same, is)

pub returns-then-to-targets : goal.returns-then-to-targets
returns-then-to-targets c =
    on_ok_weaker c.add_step.result (λ steps. within_more c.args.targets.now c.add_step.new.targets c.args.from c.args.to c.add_step.auto.targets c.if-to-targets.true c.requires steps) c.add_step.ensures
