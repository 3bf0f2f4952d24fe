-- Lists of numbers. No public contract cites this.
use Rattle.std.specs.Prelude.{ℕ, ◌≡◌, ◌<◌, true, List}
use Rattle.std.specs.List.{list_any}
use Rattle.std.specs.Ordering.{nat_cmp}
use Rattle.std.specs.BTreeMap.{is_at}

-- The number is in the list.
abbrev pub Has : List ℕ → ℕ → Type 0
Has ks q = list_any (is_at (nat_cmp q)) ks ≡ true

-- Each number of the list is less than k.
abbrev pub AreBelow : ℕ → List ℕ → Type 0
AreBelow k ns = (n : ℕ) → Has ns n → n < k
