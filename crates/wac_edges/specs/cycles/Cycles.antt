-- Steps between numbers, and cycles of them.
use Rattle.std.specs.Prelude.{ℕ, ◌≡◌, ◌<◌, ◌≤◌, true, List, length, Some, slice_get}
use Rattle.std.specs.BTreeSet.{BTreeSet, contains}
use Rattle.std.specs.Ordering.{nat_cmp}

-- A path of one or more steps.
pub data Path (steps : ℕ → ℕ → Type 0) : ℕ → ℕ → Type 0 where
  step : (a b : ℕ) → steps a b → Path steps a b
  further : (a b d : ℕ) → steps a b → Path steps b d → Path steps a d

-- A step leads from a to b: b is in the set of a.
abbrev pub IsStep : List (BTreeSet ℕ) → ℕ → ℕ → Type 0
IsStep targets a b = (s : BTreeSet ℕ) × (slice_get targets a ≡ Some s) × (contains nat_cmp s b ≡ true)

-- Steps lead only to numbers that have a set.
abbrev pub AreWithin : List (BTreeSet ℕ) → Type 0
AreWithin targets = (a b : ℕ) → IsStep targets a b → b < length targets

-- A path leads from the number back to it.
abbrev pub LeadsBack : List (BTreeSet ℕ) → ℕ → Type 0
LeadsBack targets n = Path (IsStep targets) n n

-- No number is on a cycle.
abbrev pub HasNoCycle : List (BTreeSet ℕ) → Type 0
HasNoCycle targets = (n : ℕ) → LeadsBack targets n → ⊥

-- The lowest number on a cycle.
pub record HasLowestOnCycle (targets : List (BTreeSet ℕ)) (n : ℕ) : Type 0 where
  pub on : LeadsBack targets n
  pub lowest : (m : ℕ) → LeadsBack targets m → n ≤ m
