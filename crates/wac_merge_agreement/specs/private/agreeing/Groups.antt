-- What is known while groups of instances are compared. Only contracts inside the merge cite this file.
use Rattle.std.specs.Prelude.{ℕ, zero, suc, ◌+◌, ◌≡◌, ◌<◌, ◌≤◌, ◌⊎◌, List, [], ◌∷◌, ◌++◌, length, Option, Some, slice_get}
use Rattle.std.specs.List.{AllByRecursion}
use Rattle.wac_types_shapes.specs.primitives.Name.{Name, find_name, option_case}
use Rattle.wac_merge_tables.specs.private.tables.Nodes.{Item, Node, type_of}
use Rattle.wac_merge_agreement.specs.private.agreeing.Fitting.{exports_of, Fits, IsOpen}
use Rattle.wac_merge_agreement.specs.private.agreeing.Rows.{groups_view, Row, Spot, Table}
use Rattle.wac_merge_agreement.specs.private.agreeing.Apart.{AreApart, ItemsAgree}
use Rattle.wac_merge_agreement.specs.declared.agreeing.agreement.Walk.{Walk}

-- There is an entry, and the table has the items of all.
abbrev pub IsFull : List Node → List Row → Type 0
IsFull ns rows = (0 < length rows) × AllByRecursion (λ r. type_of r.1 < length ns) rows

-- There is an entry at each spot, and the table has the items of all.
abbrev pub AreFull : List Node → Table → Type 0
AreFull ns t = AllByRecursion (λ g. IsFull ns g.1) t

-- The pair p is no later than q, by the second entry and then by the first.
abbrev pub IsNoLater : ℕ × ℕ → ℕ × ℕ → Type 0
IsNoLater p q = (p.1 < q.1) ⊎ ((p.1 ≡ q.1) × (p.0 ≤ q.0))

-- The least of the old pair, if there is one, and one more.
pub record IsLeast (old : Option (ℕ × ℕ)) (pair : ℕ × ℕ) (new : Option (ℕ × ℕ)) : Type 0 where
  pub least : ℕ × ℕ
  pub is : new ≡ Some least
  pub below : IsNoLater least pair
  pub below_old : (b : ℕ × ℕ) → old ≡ Some b → IsNoLater least b
  pub one_of : (least ≡ pair) ⊎ (old ≡ Some least)

-- The items at a spot, against that of the first entry: each is equal to it, is an instance in its group, or disagrees.
pub data Splits (ns : List Node) (holder : ℕ) (held : Item) (old : Option (ℕ × ℕ)) : List Row → List Row → Option (ℕ × ℕ) → Type 0 where
  alone : Splits ns holder held old ((holder, held) ∷ []) ((holder, held) ∷ []) old
  same : (rows group : List Row) (first : Option (ℕ × ℕ)) (e : ℕ) → Splits ns holder held old rows group first → Splits ns holder held old (rows ++ (e, held) ∷ []) group first
  beside : (rows group : List Row) (first : Option (ℕ × ℕ)) (e : ℕ) (x : Item) → Splits ns holder held old rows group first → IsOpen ns held → IsOpen ns x
      → Splits ns holder held old (rows ++ (e, x) ∷ []) (group ++ (e, x) ∷ []) first
  apart : (rows group : List Row) (first new : Option (ℕ × ℕ)) (e : ℕ) (x : Item) → Splits ns holder held old rows group first → (Fits ns held x → ⊥) → IsLeast first (holder, e) new
      → Splits ns holder held old (rows ++ (e, x) ∷ []) group new

-- A group of more than one entry is recorded.
abbrev pub IsGrouped : List (List Row) → List Row → List (List Row) → Type 0
IsGrouped old g new = ((length g ≤ 1) × (new ≡ old)) ⊎ ((1 < length g) × ((k : ℕ) × (slice_get new k ≡ Some g)) × ((new ≡ old) ⊎ (new ≡ old ++ g ∷ [])))

-- The items of entries at one spot were compared.
pub record Compares (ns : List Node) (old : Walk) (rows : List Row) (new : Walk) : Type 0 where
  pub holder : ℕ
  pub held : Item
  pub group : List Row
  pub at : slice_get rows zero ≡ Some (holder, held)
  pub splits : Splits ns holder held old.first rows group new.first
  pub grouped : IsGrouped (groups_view old.groups.keys) group (groups_view new.groups.keys)

-- The items at each spot were compared.
pub data ComparesAll (ns : List Node) (old : Walk) : Table → Walk → Type 0 where
  none : ComparesAll ns old [] old
  more : (t : Table) (s : Spot) (rows : List Row) (mid new : Walk) → ComparesAll ns old t mid → Compares ns mid rows new → ComparesAll ns old (t ++ (s, rows) ∷ []) new

-- The two entries are of one class, and their items at the spot agree if the entries do.
pub record AreTogether (ns : List Node) (items : List Item) (classes : List ℕ) (r q : Row) : Type 0 where
  pub class : ℕ
  pub first : Item
  pub second : Item
  pub at_first : slice_get items r.0 ≡ Some first
  pub at_second : slice_get items q.0 ≡ Some second
  pub class_of_first : slice_get classes r.0 ≡ Some class
  pub class_of_second : slice_get classes q.0 ≡ Some class
  pub agree : ItemsAgree ns first second → ItemsAgree ns r.1 q.1

-- The entries ascend.
abbrev pub AreOrdered : List Row → Type 0
AreOrdered [] = Unit {0}
AreOrdered (r ∷ rs) = AllByRecursion (λ q. r.0 ≤ q.0) rs × AreOrdered rs

-- The items of entries of one class at one spot.
pub record AreRows (ns : List Node) (items : List Item) (classes : List ℕ) (rows : List Row) : Type 0 where
  pub full : IsFull ns rows
  pub ordered : AreOrdered rows
  pub together : (k l : ℕ) (r q : Row) → slice_get rows k ≡ Some r → slice_get rows l ≡ Some q → AreTogether ns items classes r q

-- All of them are instances.
abbrev pub IsGroup : List Node → List Item → List ℕ → List Row → Type 0
IsGroup ns items classes g = AreRows ns items classes g × AllByRecursion (λ r. IsOpen ns r.1) g

-- This entry, or an earlier one, has the item.
pub record HasBy (rows : List Row) (entry : ℕ) (x : Item) : Type 0 where
  pub position : ℕ
  pub earliest : ℕ
  pub at : slice_get rows position ≡ Some (earliest, x)
  pub before : earliest ≤ entry

-- The items are equal, or in one group, or a disagreement of a pair that is no later is recorded.
abbrev pub IsHandled : List (List Row) → Option (ℕ × ℕ) → ℕ × ℕ → Item → Item → Type 0
IsHandled groups first pair x y =
    (x ≡ y) ⊎ (((b : ℕ × ℕ) × (first ≡ Some b) × IsNoLater b pair) ⊎ ((k : ℕ) × (g : List Row) × (slice_get groups k ≡ Some g) × HasBy g pair.0 x × HasBy g pair.1 y))

-- The exports of a group's instances are handled in the same way.
abbrev pub IsLooked : List Node → List (List Row) → Option (ℕ × ℕ) → List Row → Type 0
IsLooked ns groups first g =
    (i j : ℕ) (x y : Item) (n : Name) (es fs : List (Name × Item)) (a b : Item) → i < j → HasBy g i x → HasBy g j y → exports_of ns x ≡ Some es → exports_of ns y ≡ Some fs → find_name es n ≡ Some a → find_name fs n ≡ Some b
    → IsHandled groups first (i, j) a b

-- The groups have entries of one class, and the recorded pair disagrees.
pub record IsKnown (ns : List Node) (items : List Item) (classes : List ℕ) (w : Walk) : Type 0 where
  pub groups : (k : ℕ) (g : List Row) → slice_get (groups_view w.groups.keys) k ≡ Some g → IsGroup ns items classes g
  pub first : (b : ℕ × ℕ) → w.first ≡ Some b → AreApart ns items classes b.0 b.1

-- The entries of each class and the exports of the first k groups were compared.
pub record IsGoing (ns : List Node) (items : List Item) (classes : List ℕ) (w : Walk) (k : ℕ) : Type 0 where
  pub known : IsKnown ns items classes w
  pub roots : (i j c : ℕ) (x y : Item) → i < j → slice_get items i ≡ Some x → slice_get items j ≡ Some y → slice_get classes i ≡ Some c → slice_get classes j ≡ Some c → IsHandled (groups_view w.groups.keys) w.first (i, j) x y
  pub looked : (l : ℕ) (g : List Row) → l < k → slice_get (groups_view w.groups.keys) l ≡ Some g → IsLooked ns (groups_view w.groups.keys) w.first g

-- The sum of f over the exports of an instance.
abbrev pub sizes_by : (Item → ℕ) → List (Name × Item) → ℕ
sizes_by f [] = 0
sizes_by f (e ∷ es) = f e.1 + sizes_by f es

abbrev pub size_to : ℕ → List Node → Item → ℕ
size_to zero ns x = 1
size_to (suc k) ns x = option_case (exports_of ns x) 1 (λ es. suc (sizes_by (size_to k ns) es))

-- The number of items in an item, itself included.
abbrev pub size_of : List Node → Item → ℕ
size_of ns x = size_to (length ns) ns x

-- The number of items in those of several entries.
abbrev pub sizes_of : List Node → List Row → ℕ
sizes_of ns [] = 0
sizes_of ns (r ∷ rs) = size_of ns r.1 + sizes_of ns rs

-- The number of items in the groups from the k-th on.
abbrev pub left : List Node → ℕ → List (List Row) → ℕ
left ns k [] = 0
left ns zero (g ∷ gs) = sizes_of ns g + left ns 0 gs
left ns (suc k) (g ∷ gs) = left ns k gs
