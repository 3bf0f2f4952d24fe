-- Items of interfaces and worlds, written into the innermost scope.
use Rattle.std.specs.Prelude.{ℕ, ◌≡◌, Bool, true, false, not, List, [], ◌∷◌, None}
use Rattle.std.specs.List.{AllZip}
use Rattle.wac_types_shapes.specs.primitives.Name.{Name}
use Rattle.wac_types_shapes.specs.primitives.Tree.{Side, Tree, named, instance_item}
use Rattle.wac_types_shapes.specs.declared.shapes.component.ItemKind.{ItemKind}
use Rattle.wac_types_shapes.specs.declared.shapes.component.ItemKind.TheVariants as kind
use Rattle.wac_types_shapes.specs.declared.shapes.component.«Type».{«Type» as AnyType}
use Rattle.wac_types_shapes.specs.declared.shapes.component.«Type».TheVariants as ty
use Rattle.wac_binary.specs.HasMeaning.{IsType}
use Rattle.wac_types_shapes.specs.shapes.Kinds.{kind_type}
use Rattle.wac_types_collection.specs.collection.Collection.{Collection, holds_type}
use Rattle.wac_types_collection.specs.collection.Bound.{Bindings, binds_here}
use Rattle.wac_binary.specs.declared.sorts.Description.{Description}
use Rattle.wac_binary.specs.declared.sorts.Description.TheVariants as e
use Rattle.wac_binary.specs.Unfold.{Scope, with_item}
use Rattle.wac_encode_stacks.specs.Scopes.{How, envs}
use Rattle.wac_encode_stacks.specs.Good.{At, Good, Grown, innermost, Keeps, top, IsHeld, IsOf}
use Rattle.wac_encode_stacks.specs.Listed.{IsItem, IsNewName, on_side, other}
use Rattle.wac_encode_scopes.specs.declared.state.State.{State}
use Rattle.wac_encode_stacks.specs.private.Beside.{all_written_as}
use Rattle.wac_encode_scopes.specs.declared.encodable.Encodable.{Encodable}
use Rattle.wac_encode_scopes.specs.Contents.{AddsTypes, and_item}
use Rattle.wac_encode_scopes.specs.Books.{opened}
use Rattle.wac_encode_scopes.specs.States.{outward, stack, IsRecordedAt, IsTypeAt}
use Rattle.wac_encode_values.specs.private.Values.{IsReady}
use Rattle.wac_encode_faults.specs.Faults.{listed_fault}
use Rattle.wac_encode_interfaces.specs.private.Worlds.{Worlds, HaveWorlds}

-- If the item is an instance or a type item of an interface, the innermost scope records the interface.
abbrev pub HasInterfaceOf : Bool → State → ItemKind → Type 0
HasInterfaceOf b s (kind.Instance i) = (how : How) × (k : ℕ) × IsRecordedAt b s (ty.Interface i) how k
HasInterfaceOf b s (kind.TypeItem (ty.Interface i)) = (how : How) × (k : ℕ) × IsRecordedAt b s (ty.Interface i) how k
HasInterfaceOf b s k = Unit {0}

-- The tree is of the sort of a type item of the type.
abbrev pub IsTypeOf : AnyType → Tree → Type 0
IsTypeOf (ty.Resource r) t = IsType t
IsTypeOf a t = IsOf a t

-- The type index in the innermost scope refers to the type, which may be a resource, under all bindings under which the
-- scopes are good.
abbrev pub IsTypeIndex : Collection → Bool → State → AnyType → ℕ → Type 0
IsTypeIndex c b s a k = (ms : List Bindings) → Good c ms (stack b s) → (t : Tree) × IsHeld c (top ms) a t × IsTypeOf a t × At ((innermost (stack b s)).types) k t

-- The description of the item has a type index in the innermost scope that refers to the item's type.
abbrev pub DescribesItem : Collection → Bool → State → ItemKind → Description → Type 0
DescribesItem c b s (kind.TypeItem a) d = (i : ℕ) × (d ≡ e.Equal i) × IsTypeIndex c b s a i
DescribesItem c b s (kind.Func f) d = (i : ℕ) × (d ≡ e.Func i) × IsTypeAt c b s (ty.Func f) i
DescribesItem c b s (kind.Instance j) d = (i : ℕ) × (d ≡ e.Instance i) × IsTypeAt c b s (ty.Interface j) i
DescribesItem c b s k d = ⊥

-- The item can be added to the innermost scope, if it is no fresh resource: the resources that it mentions are bound, it is
-- neither a component nor a core module, nor of such a type, and its interface is recorded.
pub record IsItemReady (c : Collection) (b : Bool) (ws : Worlds) (s : State) (k : ItemKind) : Type 0 where
  pub held : holds_type c (kind_type k) ≡ true
  pub ready : IsReady c b s (kind_type k)
  pub writable : listed_fault k ≡ None
  pub worlds : HaveWorlds c ws (kind_type k)
  pub interface : HasInterfaceOf b s k

-- If the item is an instance, the index refers to that import or export.
abbrev pub RefersToItem : Scope → Side → Name → ItemKind → ℕ → Tree → Type 0
RefersToItem e side n (kind.Instance j) i (instance_item t) = At e.instances i (record { type = t; side = side; path = named n ∷ [] })
RefersToItem e side n k i t = Unit {0}

-- An item with the tree t and the index i is added to one side of the innermost scope, whose resources are bound by m. The
-- indexes of each scope keep their meaning.
pub record AddsTree (c : Collection) (b : Bool) (side : Side) (n : Name) (k : ItemKind) (i : ℕ) (m : Bindings) (ms : List Bindings) (t : Tree) (old new : State) : Type 0 where
  pub good : Good c (m ∷ ms) (stack b new)
  pub keeps : Keeps (innermost (stack b old)) (innermost (stack b new))
  pub around : Grown (envs (outward b old.around.items)) (envs (outward b new.around.items))
  pub this : on_side side (innermost (stack b new)) ≡ with_item (on_side side (innermost (stack b old))) n t
  pub that : on_side (other side) (innermost (stack b new)) ≡ on_side (other side) (innermost (stack b old))
  pub refers : RefersToItem (innermost (stack b new)) side n k i t

-- An item, which is no fresh resource, is added to one side of the innermost scope under a name that is new there, and has
-- the index i.
abbrev pub AddsItem : Collection → Bool → Side → Name → ItemKind → State → State → ℕ → Type 0
AddsItem c b side n k old new i = (m : Bindings) (ms : List Bindings) → Good c (m ∷ ms) (stack b old) → IsNewName (opened b old.here) (outward b old.around.items) side n
    → binds_here c m side (named n ∷ []) k ≡ false → (t : Tree) × IsItem c m side n k t × AddsTree c b side n k i m ms t old new

-- An item is added to the content of the innermost scope, after types and aliases of types. Those alone are appended to the
-- enclosing scopes, and what is recorded of the other collection is unchanged.
pub record AddsBeside (b : Bool) (side : Side) (n : Name) (old new : State) : Type 0 where
  pub other : stack (not b) new ≡ all_written_as (stack b new) (stack (not b) old)
  pub around : AllZip (λ s t. AddsTypes s.content t.content) old.around.items new.around.items
  pub between : Encodable
  pub types : AddsTypes old.here.content between
  pub description : Description
  pub content : new.here.content ≡ and_item side n description between
