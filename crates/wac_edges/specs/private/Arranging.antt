-- How numbers are arranged; private functions alone cite this.
use Rattle.std.specs.Prelude.{ℕ, ◌≡◌, List, [], ◌∷◌, ◌++◌, Some, fold, slice_get}
use Rattle.std.specs.Ordering.{nat_cmp}
use Rattle.std.specs.BTreeSet.{insert_key}
use Rattle.wac_edges.specs.declared.arranged.Step.{Step}
use Rattle.wac_edges.specs.declared.arranged.Step.TheVariants.{Open}

-- The numbers, with more of them added in order.
abbrev pub with_all : List ℕ → List ℕ → List ℕ
with_all = fold (insert_key nat_cmp)

-- The list of ranks has the position of each number.
abbrev pub AreRanks : List ℕ → List ℕ → Type 0
AreRanks ns ranks = (i k : ℕ) → slice_get ns i ≡ Some k → slice_get ranks k ≡ Some i

-- The steps that open these numbers. The last step is taken first.
abbrev pub openings : List ℕ → List Step
openings [] = []
openings (n ∷ ns) = openings ns ++ Open n ∷ []
