-- How the lowest number on a cycle is found. No public contract cites this.
use Rattle.std.specs.Prelude.{ℕ, ◌≡◌, ◌≤◌, Bool, true, false, if◌then◌else◌, ◌⊎◌, List, [], ◌∷◌, ◌++◌, length, slice_set, slice_index, slice_index_or}
use Rattle.std.specs.BTreeSet.{BTreeSet}
use Rattle.wac_edges.specs.cycles.Cycles.{IsStep, Path}
use Rattle.wac_edges.specs.private.cycles.Numbers.{AreBelow, Has}

-- No step leads to a number of higher rank.
abbrev pub Descends : List (BTreeSet ℕ) → List ℕ → Type 0
Descends targets ranks = (a b : ℕ) → IsStep targets a b → slice_index ranks b ≤ slice_index ranks a

-- No number of the list has a higher rank.
abbrev pub AreUpTo : List ℕ → ℕ → List ℕ → Type 0
AreUpTo ranks rank ns = (n : ℕ) → Has ns n → slice_index ranks n ≤ rank

-- The number is marked as reached.
abbrev pub is_reached : List Bool → ℕ → Bool
is_reached flags n = slice_index_or flags n false

-- A number is reached: if it was not reached before, it is marked and appended to the pending ones.
abbrev pub marked : List Bool × List ℕ → ℕ → List Bool × List ℕ
marked s n = if is_reached s.0 n then s else (slice_set s.0 n true, s.1 ++ n ∷ [])

-- Steps lead from n to each reached number, and all steps from there and from n lead to reached ones, unless pending.
pub record IsWalk (targets : List (BTreeSet ℕ)) (n : ℕ) (reached : List Bool) (pending : List ℕ) : Type 0 where
  pub long : length reached ≡ length targets
  pub low : AreBelow (length targets) pending
  pub sound : (m : ℕ) → is_reached reached m ≡ true → Path (IsStep targets) n m
  pub seen : (m : ℕ) → Has pending m → (m ≡ n) ⊎ (is_reached reached m ≡ true)
  pub closed : (a b : ℕ) → (a ≡ n) ⊎ (is_reached reached a ≡ true) → IsStep targets a b → Has pending a ⊎ (is_reached reached b ≡ true)
