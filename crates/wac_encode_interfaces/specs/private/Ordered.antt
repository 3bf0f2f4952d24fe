-- The order in which the items of a side are written, by their positions; private functions alone cite this.
use Rattle.std.specs.Prelude.{ℕ, ◌≡◌, ◌<◌, ◌+◌, ◌↔◌, ◌⊎◌, ◌≤◌, nat_le, Bool, true, false, List, [], ◌++◌, length, take, slice_get, Some, Contains}
use Rattle.std.specs.BTreeSet.{BTreeSet, contains}
use Rattle.std.specs.Ordering.{nat_cmp}
use Rattle.wac_types_shapes.specs.primitives.Name.{Name}
use Rattle.wac_types_shapes.specs.primitives.Tree.{Side, imported, exported}
use Rattle.wac_types_shapes.specs.declared.shapes.component.ItemKind.{ItemKind}
use Rattle.wac_types_collection.specs.collection.Collection.{Collection}
use Rattle.wac_edges.specs.cycles.Cycles.{IsStep}
use Rattle.wac_encode_scopes.specs.declared.state.State.{State}
use Rattle.wac_encode_faults.specs.Free.{SideItem}
use Rattle.wac_encode_faults.specs.Cycle.{DependsByNumber, ItemDependsOn}
use Rattle.wac_encode_interfaces.specs.declared.sides.Parts.{Parts}
use Rattle.wac_encode_interfaces.specs.private.Written.{side_item, items_written, IsWritten}
use Rattle.wac_encode_interfaces.specs.private.Parts.{sides_in}

-- The items of a side; of the imports all.
abbrev pub side_list : Parts → Side → List (Name × ItemKind)
side_list x imported = x.imports.now
side_list x exported = x.exports.now

-- The number of the first item of a side.
abbrev pub first_number : Parts → Side → ℕ
first_number x imported = 0
first_number x exported = length x.imports.now

-- Whether the item at this position of a side is an additional import.
abbrev pub is_additional : Parts → Side → ℕ → Bool
is_additional x imported p = nat_le (length x.listed.now) p
is_additional x exported p = false

-- A step to each of the first numbers is added, counted from `first`, for which P holds.
abbrev pub AddsMoved : ℕ → ℕ → (ℕ → Type 0) → List (BTreeSet ℕ) → List (BTreeSet ℕ) → Type 0
AddsMoved from first P old now = (a b : ℕ) → IsStep now a b ↔ (IsStep old a b ⊎ ((a ≡ from) × (b < length old) × P (first + b)))

-- The steps between as many numbers from the first one on, counted from there.
abbrev pub AreMoved : ℕ → List (BTreeSet ℕ) → ℕ → List (BTreeSet ℕ) → Type 0
AreMoved first steps count now = (a b : ℕ) → IsStep now a b ↔ ((a < count) × (b < count) × IsStep steps (first + a) (first + b))

-- Each position of a side is once in the order, after those of this side that it depends on.
pub record IsOrdered (steps : List (BTreeSet ℕ)) (first count : ℕ) (order : List ℕ) : Type 0 where
  pub each : (k : ℕ) → Contains order k ↔ k < count
  pub once : (i j k : ℕ) → slice_get order i ≡ Some k → slice_get order j ≡ Some k → i ≡ j
  pub after : (i p q : ℕ) → slice_get order i ≡ Some p → q < count → IsStep steps (first + p) (first + q) → Contains (take i order) q

-- The steps are the dependencies of the items.
abbrev pub AreDependencies : Collection → Parts → List (BTreeSet ℕ) → Type 0
AreDependencies c x steps = (a b : ℕ) → IsStep steps a b ↔ DependsByNumber c (sides_in x) a b

-- These items are written before a side is begun: none is on it, and each item of another side that one of its items depends
-- on is among them.
pub record IsBefore (c : Collection) (x : Parts) (side : Side) (base : List SideItem) : Type 0 where
  pub apart : (y : SideItem) → Contains base y → y.side ≡ side → ⊥
  pub others : (n : Name) (y : SideItem) → ItemDependsOn c (sides_in x) (side_item side n) y → (y.side ≡ side → ⊥) → Contains base y

-- The items at these positions of a side are written, after the items of another side.
abbrev pub IsSideWritten : Collection → Bool → Parts → Side → List SideItem → List ℕ → State → Type 0
IsSideWritten c b x side base done st = IsWritten c b (sides_in x) (base ++ items_written side (side_list x side) done) st

-- The side may be begun.
abbrev pub MayBegin : Collection → Bool → Parts → Side → State → Type 0
MayBegin c b x side st = (base : List SideItem) × IsBefore c x side base × IsWritten c b (sides_in x) base st

-- All items of a side are written, each once.
abbrev pub WritesSide : Collection → Bool → Parts → Side → State → State → Type 0
WritesSide c b x side old new = (base : List SideItem) → IsBefore c x side base → IsWritten c b (sides_in x) base old
    → (done : List ℕ) × ((k : ℕ) → k < length (side_list x side) → Contains done k) × IsSideWritten c b x side base done new

-- All items of both sides are written.
abbrev pub AreSidesWritten : Collection → Bool → Parts → State → Type 0
AreSidesWritten c b x st = (xs : List SideItem) × ((side : Side) (e : Name × ItemKind) → Contains (side_list x side) e → Contains xs (side_item side e.0)) × IsWritten c b (sides_in x) xs st
