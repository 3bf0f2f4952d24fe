-- How the next node is found: by counts of the edges from nodes that are left. No public contract cites this.
use Rattle.std.specs.Global.{Global}
use Rattle.std.specs.Prelude.{ℕ, ◌≡◌, ◌≢◌, ◌↔◌, ◌<◌, ◌==◌, ◌&&◌, Bool, true, false, List, Contains, AllPairs, nat_lt, length, slice_index, slice_index_or}
use Rattle.std.specs.BinaryHeap.{heap_items, IsHeap}
use Rattle.std.specs.List.{sum_by}
use Rattle.std.specs.Ordering.{nat_cmp}
use Rattle.std.specs.declared.cmp.Reverse.{Reverse}
use Rattle.std.specs.declared.collections.BinaryHeap.{BinaryHeap}
use Rattle.std.specs.FinSet as set
use Rattle.wac_edges.specs.declared.edges.Edge.{Edge}
use Rattle.wac_edges.specs.Order.{Edges}

-- The flag of a number is set.
abbrev pub is_set : List Bool → ℕ → Bool
is_set flags n = slice_index_or flags n false

-- One for true, zero for false.
abbrev pub one : Bool → ℕ
one true = 1
one false = 0

-- The list has the edges of the set, each once.
pub record AreAll (edges : Edges) (es : List Edge) : Type 0 where
  pub all : (e : Edge) → Contains es e ↔ (set.contains edges e ≡ true)
  pub once : AllPairs (λ a b. a ≢ b) es

-- The edge leads to b.
abbrev pub leads_to : ℕ → Edge → Bool
leads_to b e = b == e.target.0

-- The edge leads to b from a node that is left.
abbrev pub leads_from : List Bool → ℕ → Edge → Bool
leads_from flags b e = is_set flags e.source.0 && leads_to b e

-- The number of edges of the list that lead to b.
abbrev pub leading : List Edge → ℕ → ℕ
leading es b = sum_by (λ e. one (leads_to b e)) es

-- The number of edges of the list that lead to b from nodes that are left.
abbrev pub incoming : List Bool → List Edge → ℕ → ℕ
incoming flags es b = sum_by (λ e. one (leads_from flags b e)) es

-- Each count is the number of edges to the node from nodes that are left.
abbrev pub AreCounted : List Bool → Edges → List ℕ → Type 0
AreCounted flags edges counts = (es : List Edge) × AreAll edges es × ((b : ℕ) → b < length counts → slice_index counts b ≡ incoming flags es b)

-- The number is left and has this count.
abbrev pub is_left_with : List Bool → List ℕ → ℕ → ℕ → Bool
is_left_with flags counts count b = is_set flags b && (slice_index counts b == count)

-- The number of times that a number occurs in the list.
abbrev pub stands : List (Reverse ℕ) → ℕ → ℕ
stands rs b = sum_by (λ r. one (b == r.0)) rs

-- The heap has the numbers below the bound that are left and have count 0, each once.
abbrev pub AreReady : BinaryHeap (Reverse ℕ) Global → ℕ → List Bool → List ℕ → Type 0
AreReady ready bound flags counts = IsHeap (λ x y. nat_cmp y.0 x.0) (heap_items ready) × ((b : ℕ) → stands (heap_items ready) b ≡ one (nat_lt b bound && is_left_with flags counts 0 b))

-- The number is the lowest that is left and has count 0.
pub record IsLowestFree (flags : List Bool) (counts : List ℕ) (n : ℕ) : Type 0 where
  pub here : is_left_with flags counts 0 n ≡ true
  pub lower : (m : ℕ) → m < n → is_left_with flags counts 0 m ≡ false

-- Each edge leads to a node with a higher number.
abbrev pub AllRise : Edges → Type 0
AllRise edges = (e : Edge) → set.contains edges e ≡ true → e.source.0 < e.target.0
