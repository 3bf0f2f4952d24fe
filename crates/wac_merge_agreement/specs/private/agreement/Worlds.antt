-- Worlds of the collection, and their numbers. Only contracts inside the merge cite this file.
use Rattle.std.specs.Prelude.{◌≡◌, ◌⊎◌, ℕ, Bool, true, false, List, Option, Some}
use Rattle.std.specs.List.{All}
use Rattle.wac_types_collection.specs.collection.Collection.{Collection, holds_type}
use Rattle.wac_types_collection.specs.reach.Reach.{IsIn}
use Rattle.wac_types_shapes.specs.declared.shapes.component.«Type».{«Type» as AnyType}
use Rattle.wac_types_shapes.specs.declared.shapes.component.«Type».TheVariants as ty
use Rattle.wac_types_shapes.specs.declared.shapes.component.WorldId.{WorldId}
use Rattle.wac_merge_classes.specs.entries.Scopes.{number_of}
use Rattle.wac_merge_agreement.specs.private.agreement.ReachSteps.{flag_of}

-- These are worlds among the types.
abbrev pub AreAmong : List AnyType → List WorldId → Type 0
AreAmong ts ws = All (λ w. IsIn (ty.World w) ts) ws

-- The worlds are of the collection.
abbrev pub AreWorlds : Collection → List WorldId → Type 0
AreWorlds c ws = All (λ w. holds_type c (ty.World w) ≡ true) ws

-- Each number is an old one, or the one that the world was given.
abbrev pub HasNumberToo : List (Option ℕ) → WorldId → ℕ → List (Option ℕ) → Type 0
HasNumberToo old w n new = (v : WorldId) (k : ℕ) → number_of new (ty.World v) ≡ Some k → (number_of old (ty.World v) ≡ Some k) ⊎ ((v ≡ w) × (k ≡ n))

-- Each number is an old one, or that of the world, whose node has no mark.
abbrev pub HasUnmarkedToo : List Bool → List (Option ℕ) → WorldId → ℕ → List (Option ℕ) → Type 0
HasUnmarkedToo marks old w n new = (v : WorldId) (k : ℕ) → number_of new (ty.World v) ≡ Some k → (number_of old (ty.World v) ≡ Some k) ⊎ ((v ≡ w) × (k ≡ n) × (flag_of marks n ≡ false))
