-- What is known while the exports that lead to a disagreement are found. Only contracts inside the merge cite this
-- file.
use Rattle.std.specs.Prelude.{ℕ, zero, suc, ◌+◌, ◌-◌, ◌≡◌, ◌<◌, ◌≤◌, List, [], ◌∷◌, ◌++◌, length, take, drop, Some, slice_get}
use Rattle.std.specs.List.{AllByRecursion}
use Rattle.wac_types_shapes.specs.primitives.Name.{Name, find_name, option_case}
use Rattle.wac_types_shapes.specs.shapes.Kinds.{kind_type}
use Rattle.wac_types_shapes.specs.declared.shapes.component.ItemKind.{ItemKind}
use Rattle.wac_types_shapes.specs.declared.shapes.component.ItemKind.TheVariants as kind
use Rattle.wac_types_collection.specs.collection.Collection.{Collection, HasInterface, interface_exports}
use Rattle.wac_types_collection.specs.subtyping.Ranks.{type_rank}
use Rattle.wac_merge_classes.specs.entries.Agreement.{AreInstances}
use Rattle.wac_merge_tables.specs.private.tables.Nodes.{Node, Item, type_of, item_tree, tree_at}
use Rattle.wac_merge_tables.specs.private.tables.NodeViews.{item_view}
use Rattle.wac_merge_tables.specs.declared.tables.nodes.Item.{Item as AnItem}
use Rattle.wac_merge_agreement.specs.private.agreeing.Fitting.{exports_of}
use Rattle.wac_merge_agreement.specs.private.agreeing.Apart.{ItemsAgree}
use Rattle.wac_merge_agreement.specs.private.agreement.Shapes.{AgreeUnder, IsOfKind, IsShaped}
use Rattle.wac_merge_agreement.specs.declared.agreement.apart.Level.{Level}
use Rattle.wac_merge_agreement.specs.declared.agreement.apart.Look.{Look}
use Rattle.wac_merge_agreement.specs.declared.agreement.apart.Look.TheVariants.{Done, Agree, Inside, Apart}

-- The two instances of a level and their exports. The second is of the level's interface.
pub record AreOpen (c : Collection) (ns : List Node) (l : Level) (es fs : List (Name × Item)) : Type 0 where
  pub first : exports_of ns (item_view l.first) ≡ Some es
  pub second : exports_of ns (item_view l.second) ≡ Some fs
  pub first_low : type_of (item_view l.first) < length ns
  pub second_low : type_of (item_view l.second) < length ns
  pub shaped : IsShaped (item_tree (tree_at ns) (item_view l.first))
  pub of_kind : IsOfKind c (item_tree (tree_at ns) (item_view l.second)) (kind.Instance l.interface)
  pub held : HasInterface c l.interface

-- The exports that were compared at a level agree.
pub record IsLevel (c : Collection) (ns : List Node) (l : Level) : Type 0 where
  pub es : List (Name × Item)
  pub fs : List (Name × Item)
  pub opened : AreOpen c ns l es fs
  pub within : l.passed ≤ length (interface_exports c l.interface)
  pub agree : AllByRecursion (λ e. AgreeUnder ns es fs e.0) (take l.passed (interface_exports c l.interface))

-- The last compared export of a level has these items and this kind. The exports before it agree.
pub record IsAbove (c : Collection) (ns : List Node) (l : Level) (x y : Item) (k : ItemKind) : Type 0 where
  pub es : List (Name × Item)
  pub fs : List (Name × Item)
  pub before : ℕ
  pub name : Name
  pub opened : AreOpen c ns l es fs
  pub last : l.passed ≡ before + 1
  pub at : slice_get (interface_exports c l.interface) before ≡ Some (name, k)
  pub agree : AllByRecursion (λ e. AgreeUnder ns es fs e.0) (take before (interface_exports c l.interface))
  pub in_first : find_name es name ≡ Some x
  pub in_second : find_name fs name ≡ Some y

-- The level of two items before any export is compared.
pub record IsStart (c : Collection) (ns : List Node) (first second : AnItem) (k : ItemKind) (l : Level) : Type 0 where
  pub first_is : l.first ≡ first
  pub second_is : l.second ≡ second
  pub kind_is : k ≡ kind.Instance l.interface
  pub none_passed : l.passed ≡ 0
  pub level : IsLevel c ns l

-- One more export was compared.
pub record IsFurther (c : Collection) (old new : Level) : Type 0 where
  pub within : old.passed < length (interface_exports c old.interface)
  pub is : new ≡ record { first = old.first; second = old.second; interface = old.interface; passed = old.passed + 1 }

-- The last compared exports disagree and are not both instances.
pub record IsApartBelow (c : Collection) (ns : List Node) (l : Level) : Type 0 where
  pub x : Item
  pub y : Item
  pub k : ItemKind
  pub above : IsAbove c ns l x y k
  pub closed : AreInstances (item_tree (tree_at ns) x) (item_tree (tree_at ns) y) → ⊥
  pub apart : ItemsAgree ns x y → ⊥

-- The result of comparing the next export.
abbrev pub Looks : Collection → List Node → Level → Level → Look → Type 0
Looks c ns old new Done = ItemsAgree ns (item_view old.first) (item_view old.second)
Looks c ns old new Agree = IsFurther c old new × IsLevel c ns new
Looks c ns old new (Inside m) = IsFurther c old new × (IsAbove c ns new (item_view m.first) (item_view m.second) (kind.Instance m.interface) × (IsLevel c ns m × (m.passed ≡ 0)))
Looks c ns old new Apart = IsFurther c old new × IsApartBelow c ns new

-- The levels from the first two items down to these.
pub data AreLevels (c : Collection) (ns : List Node) (first second : Item) (sort : ItemKind) : List Level → Item → Item → ItemKind → Type 0 where
  at_root : AreLevels c ns first second sort [] first second sort
  under : (all ls : List Level) (l : Level) (x y : Item) (k : ItemKind) → all ≡ ls ++ l ∷ [] → AreLevels c ns first second sort ls (item_view l.first) (item_view l.second) (kind.Instance l.interface) → IsAbove c ns l x y k
      → AreLevels c ns first second sort all x y k

-- An export was compared.
pub record HasPassed (c : Collection) (l : Level) : Type 0 where
  pub held : HasInterface c l.interface
  pub some : 0 < l.passed
  pub within : l.passed ≤ length (interface_exports c l.interface)

-- The name of the last compared export.
abbrev pub name_of : Collection → Level → Name
name_of c l = option_case (slice_get (interface_exports c l.interface) (l.passed - 1)) [] (λ e. e.0)

-- The sum of f over these items.
abbrev pub looks_by : (ItemKind → ℕ) → List (Name × ItemKind) → ℕ
looks_by f [] = 0
looks_by f (e ∷ es) = f e.1 + looks_by f es

-- The number of comparisons that an item of a kind takes, down to depth n.
abbrev pub looks_to : ℕ → Collection → ItemKind → ℕ
looks_to zero c k = 1
looks_to (suc n) c (kind.Instance i) = suc (suc (looks_by (looks_to n c) (interface_exports c i)))
looks_to (suc n) c k = 1

-- The number of comparisons that an item of a kind takes, itself included.
unfoldable pub looks_of : Collection → ItemKind → ℕ
looks_of c k = looks_to (type_rank c (kind_type k)) c k

-- The number of comparisons that a level still takes.
abbrev pub left_at : Collection → Level → ℕ
left_at c l = suc (looks_by (looks_of c) (drop l.passed (interface_exports c l.interface)))

-- The number of comparisons that several levels still take.
unfoldable pub left_in : Collection → List Level → ℕ
left_in c [] = 0
left_in c (l ∷ ls) = left_at c l + left_in c ls
