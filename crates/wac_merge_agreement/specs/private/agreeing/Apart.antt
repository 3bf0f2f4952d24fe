-- When the entries of a class agree, in a table of nodes.
use Rattle.std.specs.Prelude.{ℕ, ◌≡◌, ◌<◌, ◌≤◌, List, length, Some, slice_get}
use Rattle.wac_merge_classes.specs.entries.Agreement.{Agree}
use Rattle.wac_merge_tables.specs.private.tables.Nodes.{Item, Node, item_tree, tree_at}

-- The items agree.
abbrev pub ItemsAgree : List Node → Item → Item → Type 0
ItemsAgree ns x y = Agree (item_tree (tree_at ns) x) (item_tree (tree_at ns) y)

-- An entry disagrees with a later entry of its class.
pub record AreApart (ns : List Node) (items : List Item) (classes : List ℕ) (first second : ℕ) : Type 0 where
  pub earlier : Item
  pub later : Item
  pub class : ℕ
  pub at_first : slice_get items first ≡ Some earlier
  pub at_second : slice_get items second ≡ Some later
  pub class_of_first : slice_get classes first ≡ Some class
  pub class_of_second : slice_get classes second ≡ Some class
  pub before : first < second
  pub apart : ItemsAgree ns earlier later → ⊥

-- Each of the first l entries agrees with each earlier entry of its class.
abbrev pub AgreeTo : List Node → List Item → List ℕ → ℕ → Type 0
AgreeTo ns items classes l = (i j k : ℕ) (a b : Item) → i < j → j < l → slice_get items i ≡ Some a → slice_get items j ≡ Some b → slice_get classes i ≡ Some k → slice_get classes j ≡ Some k → ItemsAgree ns a b

-- Each entry agrees with each earlier entry of its class.
abbrev pub AllAgree : List Node → List Item → List ℕ → Type 0
AllAgree ns items classes = AgreeTo ns items classes (length items)

-- The earliest entry that disagrees with an earlier one, and the earliest entry that it disagrees with.
pub record IsFirstApart (ns : List Node) (items : List Item) (classes : List ℕ) (first second : ℕ) : Type 0 where
  pub apart : AreApart ns items classes first second
  pub earliest : (i j : ℕ) → AreApart ns items classes i j → second ≤ j
  pub with_earliest : (i : ℕ) → AreApart ns items classes i second → first ≤ i
