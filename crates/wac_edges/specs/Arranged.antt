-- Numbers in an order in which each comes directly after those that it depends on.
use Rattle.std.specs.Prelude.{ℕ, ◌≡◌, ◌<◌, ◌↔◌, List, [], ◌∷◌, ◌++◌, Some, slice_get, Contains}

-- Each number is in the list once.
abbrev pub IsOnce : List ℕ → Type 0
IsOnce ns = (i j k : ℕ) → slice_get ns i ≡ Some k → slice_get ns j ≡ Some k → i ≡ j

-- The list has the numbers below n.
abbrev pub AreAll : ℕ → List ℕ → Type 0
AreAll n ns = (k : ℕ) → (Contains ns k ↔ k < n)

-- The second list has the members of the first for which P holds, in order.
pub data Selects (P : ℕ → Type 0) : List ℕ → List ℕ → Type 0 where
  none : Selects P [] []
  takes : (n : ℕ) (ns taken : List ℕ) → P n → Selects P ns taken → Selects P (n ∷ ns) (n ∷ taken)
  leaves : (n : ℕ) (ns taken : List ℕ) → (P n → ⊥) → Selects P ns taken → Selects P (n ∷ ns) taken

-- Each number is appended unless it is there, after the numbers of `all` that it depends on and that are not there yet.
pub data Arranges (depends : ℕ → ℕ → Type 0) (all : List ℕ) : List ℕ → List ℕ → List ℕ → Type 0 where
  done : (placed : List ℕ) → Arranges depends all placed [] placed
  there : (placed after : List ℕ) (n : ℕ) (ns : List ℕ) → Contains placed n → Arranges depends all placed ns after → Arranges depends all placed (n ∷ ns) after
  new : (placed under before after : List ℕ) (n : ℕ) (ns : List ℕ) → (Contains placed n → ⊥)
      → Selects (depends n) all under → Arranges depends all placed under before → Arranges depends all (before ++ n ∷ []) ns after
      → Arranges depends all placed (n ∷ ns) after
