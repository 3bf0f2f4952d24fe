-- The conditions on two items under which their first disagreement is found. Only contracts inside the merge cite this
-- file.
use Rattle.std.specs.Prelude.{ℕ, ◌≡◌, ◌<◌, ◌≤◌, List, ◌∷◌, ◌++◌, Some, slice_get, IsSome}
use Rattle.std.specs.List.{AllByRecursion}
use Rattle.std.specs.Ordering.{nat_cmp}
use Rattle.std.specs.declared.cmp.Ordering.{Ordering}
use Rattle.std.specs.declared.cmp.Ordering.TheVariants.{Less}
use Rattle.std.specs.Cmp.Lexicographic.{slice_cmp}
use Rattle.wac_types_shapes.specs.primitives.Name.{Name, find_name}
use Rattle.wac_types_shapes.specs.primitives.Tree.{TypeTree, absent, instance, instance_item}
use Rattle.wac_types_collection.specs.subtyping.Called.{Called}
use Rattle.wac_types_collection.specs.collection.Collection.{Collection, HasInterface, interface_exports}
use Rattle.wac_types_shapes.specs.declared.shapes.component.ItemKind.{ItemKind}
use Rattle.wac_types_shapes.specs.declared.shapes.component.ItemKind.TheVariants as kind
use Rattle.wac_merge_tables.specs.private.tables.Nodes.{Node, Item}
use Rattle.wac_merge_agreement.specs.private.agreeing.Apart.{ItemsAgree}

-- Each instance, at each depth, is given by its exports.
abbrev pub IsShaped : TypeTree Called → Type 0
IsShaped (instance_item (instance f)) = (n : Name) → IsShaped (f n)
IsShaped (instance_item t) = ⊥
IsShaped t = Unit {0}

-- A tree is of a kind: either both are instances, with the same exports, each of its kind, or neither is an instance.
abbrev pub IsOfKind : Collection → TypeTree Called → ItemKind → Type 0
IsOfKind c (instance_item (instance g)) (kind.Instance i) =
    HasInterface c i × ((n : Name) → (g n ≡ absent → ⊥) → IsSome (find_name (interface_exports c i) n)) × ((n : Name) (k : ItemKind) → find_name (interface_exports c i) n ≡ Some k → (g n ≡ absent → ⊥) × IsOfKind c (g n) k)
IsOfKind c (instance_item t) k = ⊥
IsOfKind c t (kind.Instance i) = ⊥
IsOfKind c t k = Unit {0}

-- The exports under a name agree, if both are there.
abbrev pub AgreeUnder : List Node → List (Name × Item) → List (Name × Item) → Name → Type 0
AgreeUnder ns es fs n = (a b : Item) → find_name es n ≡ Some a → find_name fs n ≡ Some b → ItemsAgree ns a b

-- Both exports under a name are there, and they disagree.
pub record AreApartUnder (ns : List Node) (es fs : List (Name × Item)) (n : Name) (a b : Item) : Type 0 where
  pub in_first : find_name es n ≡ Some a
  pub in_second : find_name fs n ≡ Some b
  pub apart : ItemsAgree ns a b → ⊥

-- The first of these names under which both exports are there and disagree.
pub record IsNextListed (ns : List Node) (es fs : List (Name × Item)) (listed : List (Name × ItemKind)) (n : Name) (a b : Item) (k : ItemKind) : Type 0 where
  pub before : List (Name × ItemKind)
  pub after : List (Name × ItemKind)
  pub order : listed ≡ before ++ (n, k) ∷ after
  pub agree : AllByRecursion (λ e. AgreeUnder ns es fs e.0) before
  pub under : AreApartUnder ns es fs n a b

-- The order of names, byte by byte.
abbrev pub compare : Name → Name → Ordering
compare = slice_cmp nat_cmp

-- The names before position `low` are less than n.
abbrev pub AreBefore : {V : Type 0} → List (Name × V) → Name → ℕ → Type 0
AreBefore {V} es n low = (k : ℕ) (e : Name × V) → k < low → slice_get es k ≡ Some e → compare e.0 n ≡ Less

-- The names from position `high` on are greater than n.
abbrev pub AreBehind : {V : Type 0} → List (Name × V) → Name → ℕ → Type 0
AreBehind {V} es n high = (k : ℕ) (e : Name × V) → high ≤ k → slice_get es k ≡ Some e → compare n e.0 ≡ Less
