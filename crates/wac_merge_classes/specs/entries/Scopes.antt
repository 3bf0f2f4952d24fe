-- The scopes of an item, and how resources are named in each. Only contracts inside the merge cite this file.
use Rattle.std.specs.Prelude.{ℕ, zero, suc, ◌≡◌, ◌<◌, true, false, not, is_some, List, [], ◌∷◌, ◌++◌, map, filter, Option, Some, None, Contains, slice_get}
use Rattle.wac_types_shapes.specs.primitives.Name.{Name, option_case}
use Rattle.wac_types_shapes.specs.primitives.Tree.{Leaf, TypeTree, instance}
use Rattle.wac_types_collection.specs.collection.Collection.{Collection, item_at, holds_type, interface_exports, world_imports, world_exports}
use Rattle.wac_types_collection.specs.collection.Held.{Names, unfolded, item_tree, items_under}
use Rattle.wac_types_collection.specs.collection.Bound.{bound_by_imports, bound_in_world}
use Rattle.wac_types_collection.specs.subtyping.Called.{Called, or_around, own_leaf, by_binding}
use Rattle.wac_types_shapes.specs.declared.shapes.component.«Type».{«Type» as AnyType}
use Rattle.wac_types_shapes.specs.declared.shapes.component.«Type».TheVariants as ty
use Rattle.wac_types_shapes.specs.declared.shapes.component.ItemKind.{ItemKind}
use Rattle.wac_types_shapes.specs.declared.shapes.component.ItemKind.TheVariants as kind
use Rattle.wac_merge_classes.specs.declared.entries.scopes.Opener.{Opener}
use Rattle.wac_merge_classes.specs.declared.entries.scopes.Opener.TheVariants as opener
use Rattle.wac_merge_classes.specs.declared.entries.scopes.Scope.{Scope}
use Rattle.wac_merge_classes.specs.entries.Classes.{Entry, NameRules}
use Rattle.wac_merge_classes.specs.entries.Agreement.{called_inside, called_outside}

-- The type that opens the scope.
abbrev pub opener_type : Opener → AnyType
opener_type (opener.Interface i) = ty.Interface i
opener_type (opener.Imports w) = ty.World w
opener_type (opener.Exports w) = ty.World w

-- The items of the scope.
abbrev pub listed_in : Collection → Opener → List (Name × ItemKind)
listed_in c (opener.Interface i) = interface_exports c i
listed_in c (opener.Imports w) = world_imports c w
listed_in c (opener.Exports w) = world_exports c w

-- The resources that the scope itself binds.
abbrev pub binds : Collection → Opener → Names Leaf
binds c (opener.Interface i) r = option_case (item_at c.interfaces i.0) None (λ it. own_leaf c it r)
binds c (opener.Imports w) r = option_case (item_at c.worlds w.0) None (λ x. bound_by_imports c x r)
binds c (opener.Exports w) r = option_case (item_at c.worlds w.0) None (λ x. bound_in_world c x r)

-- The scopes that a type opens.
abbrev pub opened_by_type : AnyType → List Opener
opened_by_type (ty.Interface i) = opener.Interface i ∷ []
opened_by_type (ty.World w) = opener.Imports w ∷ opener.Exports w ∷ []
opened_by_type t = []

-- The scopes that an item opens.
abbrev pub opened_by : ItemKind → List Opener
opened_by (kind.TypeItem t) = opened_by_type t
opened_by (kind.Instance i) = opener.Interface i ∷ []
opened_by (kind.Component w) = opener.Imports w ∷ opener.Exports w ∷ []
opened_by k = []

-- The scopes that these items open, in order.
abbrev pub opened : List (Name × ItemKind) → List Opener
opened [] = []
opened (e ∷ es) = opened_by e.1 ++ opened es

-- The position of the enclosing scope, if there is one, is less than i.
abbrev pub IsBelow : ℕ → Option ℕ → Type 0
IsBelow i None = Unit {0}
IsBelow i (Some p) = p < i

-- The scope comes from the item itself, or from an item of the enclosing scope.
abbrev pub ComesFrom : Collection → List Opener → List Scope → ℕ → Opener → Option ℕ → Type 0
ComesFrom c roots ss i o None = slice_get roots i ≡ Some o
ComesFrom c roots ss i o (Some p) = (t : Scope) × (slice_get ss p ≡ Some t) × Contains (opened (listed_in c t.opener)) o

-- A scope inside another, or an outermost one.
abbrev pub inside : Option ℕ → Opener → Scope
inside parent o = record { opener = o; parent = parent }

-- The number of a world's component in this list, if it has one there.
abbrev pub number_of : List (Option ℕ) → AnyType → Option ℕ
number_of known (ty.World w) = option_case (slice_get known w.0) None (λ n. n)
number_of known t = None

-- The openers that are not sides of worlds with a number.
abbrev pub unknown : List (Option ℕ) → List Opener → List Opener
unknown known os = filter (λ o. not (is_some (number_of known (opener_type o)))) os

-- The scopes of an item, each once: those that it opens itself, and those that items of other scopes open.
pub record AreScopes (c : Collection) (roots : List Opener) (ss : List Scope) : Type 0 where
  pub rooted : (j : ℕ) (o : Opener) → slice_get roots j ≡ Some o → (s : Scope) × (slice_get ss j ≡ Some s) × (s.opener ≡ o) × (s.parent ≡ None)
  pub once : (i j : ℕ) (s : Scope) → slice_get ss i ≡ Some s → slice_get ss j ≡ Some s → i ≡ j
  pub around : (i : ℕ) (s : Scope) → slice_get ss i ≡ Some s → IsBelow i s.parent
  pub held : (i : ℕ) (s : Scope) → slice_get ss i ≡ Some s → holds_type c (opener_type s.opener) ≡ true
  pub known : (i : ℕ) (s : Scope) → slice_get ss i ≡ Some s → ComesFrom c roots ss i s.opener s.parent

-- Each scope has the scopes that its items open, except the sides of worlds with a number.
abbrev pub AreNested : Collection → List (Option ℕ) → List Scope → Type 0
AreNested c known ss = (i : ℕ) (s : Scope) (o : Opener) → slice_get ss i ≡ Some s → Contains (opened (listed_in c s.opener)) o → number_of known (opener_type o) ≡ None
    → Contains ss (inside (Some i) o)

-- How resources are named in the outermost scopes of an entry.
abbrev pub called_in_root : NameRules → Collection → List Entry → Name → ItemKind → Opener → Names Called
called_in_root rules c es class (kind.Instance i) o r = option_case (item_at c.interfaces i.0) None (λ it. called_inside rules c es class it r)
called_in_root rules c es class k o r = or_around c (binds c o r) (called_outside rules c es) r

-- How resources are named in a scope that has at most k enclosing scopes. `root` names them in the outermost scopes.
abbrev pub called_to : ℕ → Collection → (Opener → Names Called) → List Scope → ℕ → Names Called
called_to zero c root ss i r = None
called_to (suc k) c root ss i r = option_case (slice_get ss i) None (λ s. option_case s.parent (root s.opener r) (λ p. or_around c (binds c s.opener r) (called_to k c root ss p) r))

-- How resources are named in a scope.
abbrev pub called_in : Collection → (Opener → Names Called) → List Scope → ℕ → Names Called
called_in c root ss i = called_to (suc i) c root ss i

-- The items of a scope as the tree of an instance, for one side of a component too.
abbrev pub scope_tree : Collection → Names Called → Opener → TypeTree Called
scope_tree c m o = instance (items_under (map (λ e. (e.0, item_tree (unfolded (by_binding c) c m) false e.1)) (listed_in c o)))
