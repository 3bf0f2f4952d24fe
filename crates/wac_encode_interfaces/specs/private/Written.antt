-- What is written so far of the two sides of a component type; private functions alone cite this.
use Rattle.std.specs.Prelude.{ℕ, ◌≡◌, ◌&&◌, Bool, true, false, if◌then◌else◌, List, [], ◌∷◌, ◌++◌, take, slice_get, Option, Some, None, Contains}
use Rattle.std.specs.List.{list_any, flat_map}
use Rattle.wac_types_shapes.specs.primitives.Name.{Name, same_name, option_case}
use Rattle.wac_types_shapes.specs.primitives.Tree.{Side, imported, exported, Place, named, Leaf, Tree, absent}
use Rattle.wac_types_shapes.specs.shapes.Kinds.{kind_type}
use Rattle.wac_types_shapes.specs.shapes.Named.{NoNameTwice}
use Rattle.wac_types_shapes.specs.declared.shapes.component.InterfaceId.{InterfaceId}
use Rattle.wac_types_shapes.specs.declared.shapes.component.ItemKind.{ItemKind}
use Rattle.wac_types_shapes.specs.declared.shapes.component.ItemKind.TheVariants as kind
use Rattle.wac_types_collection.specs.collection.Collection.{Collection, holds_type}
use Rattle.wac_types_collection.specs.collection.Held.{items_under}
use Rattle.wac_types_collection.specs.collection.Bound.{Bindings, same_side}
use Rattle.wac_binary.specs.Unfold.{with_item}
use Rattle.wac_encode_stacks.specs.Good.{Good, innermost}
use Rattle.wac_encode_stacks.specs.Listed.{on_side, other}
use Rattle.wac_encode_scopes.specs.declared.state.State.{State}
use Rattle.wac_encode_scopes.specs.private.Components.{IsComponentType}
use Rattle.wac_encode_scopes.specs.States.{stack}
use Rattle.wac_encode_faults.specs.Sides.{Sides, all_imports, export_bindings}
use Rattle.wac_encode_faults.specs.Free.{SideItem}
use Rattle.wac_encode_faults.specs.Cycle.{ItemDependsOn}
use Rattle.wac_encode_faults.specs.Trees.{side_trees}
use Rattle.wac_encode_interfaces.specs.private.Ready.{AreSidesClean}
use Rattle.wac_encode_interfaces.specs.private.Worlds.{Worlds, HaveWorlds, HaveInterfaceWorlds}

-- The item of a side under a name.
abbrev pub side_item : Side → Name → SideItem
side_item side n = record { side = side; name = n }

-- The path begins with the name.
abbrev pub begins_with : Name → List Place → Bool
begins_with n (named k ∷ rest) = same_name k n
begins_with n _ = false

-- The binding, if there is one, is at the item or inside it.
abbrev pub is_bound_at : Option Leaf → SideItem → Bool
is_bound_at None x = false
is_bound_at (Some l) x = same_side l.side x.side && begins_with x.name l.path

-- The bindings of the exports, as far as these items make them.
abbrev pub bound_so_far : Collection → Sides → List SideItem → Bindings
bound_so_far c s xs r = if list_any (is_bound_at (export_bindings c s r)) xs then export_bindings c s r else None

-- The item is on this side under this name.
abbrev pub is_under : Side → Name → SideItem → Bool
is_under side n x = same_side x.side side && same_name x.name n

-- The tree of the item of a side under a name, if it is one of these items.
abbrev pub listed_so_far : Collection → Sides → List SideItem → Side → Name → Tree
listed_so_far c s xs side n = if list_any (is_under side n) xs then items_under (side_trees c s side) n else absent

-- A component type without enclosing scope is open, in which these items of both sides are written, with their final trees.
-- The scope binds what they bind.
pub record IsWritten (c : Collection) (b : Bool) (s : Sides) (xs : List SideItem) (st : State) : Type 0 where
  pub around : st.around.items ≡ []
  pub content : IsComponentType st.here.content
  pub good : Good c (bound_so_far c s xs ∷ []) (stack b st)
  pub listed : (side : Side) (n : Name) → on_side side (innermost (stack b st)) n ≡ listed_so_far c s xs side n

-- The item that is to be written next is new, and each item that it depends on is written.
pub record IsNext (c : Collection) (b : Bool) (s : Sides) (xs : List SideItem) (x : SideItem) (st : State) : Type 0 where
  pub written : IsWritten c b s xs st
  pub new : Contains xs x → ⊥
  pub after : (y : SideItem) → ItemDependsOn c s x y → Contains xs y

-- An import or export of this kind, or an additional import.
abbrev pub IsItemOf : Sides → Side → Name → ItemKind → Bool → Type 0
IsItemOf s imported n k false = Contains s.imports (n, k)
IsItemOf s imported n k true = Contains s.additional (n, k)
IsItemOf s exported n k false = Contains s.exports (n, k)
IsItemOf s exported n k true = ⊥

-- A component type with these sides can be written: its items are of the collection, no name is twice on a side, additional
-- imports are instances, nothing has a fault, and the worlds inside are written.
pub record AreWritable (c : Collection) (ws : Worlds) (s : Sides) : Type 0 where
  pub imports_once : NoNameTwice (all_imports s)
  pub exports_once : NoNameTwice s.exports
  pub instances : (n : Name) (k : ItemKind) → Contains s.additional (n, k) → (i : InterfaceId) × (k ≡ kind.Instance i)
  pub held : (side : Side) (n : Name) (k : ItemKind) (additional : Bool) → IsItemOf s side n k additional → holds_type c (kind_type k) ≡ true
  pub worlds : (side : Side) (n : Name) (k : ItemKind) → IsItemOf s side n k false → HaveWorlds c ws (kind_type k)
  pub types_worlds : (n : Name) (i : InterfaceId) → Contains s.additional (n, kind.Instance i) → HaveInterfaceWorlds c ws true i
  pub clean : AreSidesClean c s

-- An item with the tree t is added to one side of a component type without enclosing scope, which then binds resources by m.
pub record AddsToSide (c : Collection) (b : Bool) (side : Side) (n : Name) (m : Bindings) (t : Tree) (old new : State) : Type 0 where
  pub around : new.around.items ≡ []
  pub content : IsComponentType new.here.content
  pub good : Good c (m ∷ []) (stack b new)
  pub this : on_side side (innermost (stack b new)) ≡ with_item (on_side side (innermost (stack b old))) n t
  pub that : on_side (other side) (innermost (stack b new)) ≡ on_side (other side) (innermost (stack b old))

-- The items of a side at these positions.
abbrev pub items_written : Side → List (Name × ItemKind) → List ℕ → List SideItem
items_written side es ps = flat_map (λ p. option_case (slice_get es p) [] (λ e. side_item side e.0 ∷ [])) ps

-- Each number comes after those of all that it depends on.
abbrev pub IsAfter : (ℕ → ℕ → Type 0) → List ℕ → List ℕ → Type 0
IsAfter depends all xs = (i n m : ℕ) → slice_get xs i ≡ Some n → depends n m → Contains all m → Contains (take i xs) m
