-- Interfaces inside interfaces, as levels of open instance types; private functions alone cite this.
use Rattle.std.specs.Prelude.{ℕ, suc, ◌≡◌, ◌≤◌, ◌<◌, ◌+◌, ◌^◌, ◌↔◌, Bool, true, false, List, [], ◌∷◌, ◌++◌, length, take, Contains, Option, Some, None, slice_get}
use Rattle.std.specs.List.{flat_map, AllByRecursion}
use Rattle.wac_types_shapes.specs.primitives.Name.{Name, option_case}
use Rattle.wac_types_shapes.specs.primitives.Tree.{exported}
use Rattle.wac_types_shapes.specs.shapes.Named.{NoNameTwice}
use Rattle.wac_types_shapes.specs.declared.shapes.component.InterfaceId.{InterfaceId}
use Rattle.wac_types_shapes.specs.declared.shapes.component.Interface.{Interface}
use Rattle.wac_types_shapes.specs.declared.shapes.component.ItemKind.{ItemKind}
use Rattle.wac_types_shapes.specs.declared.shapes.component.ItemKind.TheVariants as kind
use Rattle.wac_types_shapes.specs.shapes.Kinds.{kind_type}
use Rattle.wac_types_shapes.specs.declared.shapes.component.«Type».TheVariants as ty
use Rattle.wac_types_collection.specs.collection.Collection.{Collection, item_at, holds_type}
use Rattle.wac_types_collection.specs.collection.Bound.{Bindings, inside_interface}
use Rattle.wac_binary.specs.Unfold.{Scope}
use Rattle.wac_encode_stacks.specs.Scopes.{Stack, env, envs}
use Rattle.wac_encode_stacks.specs.Good.{Good, top, Grown}
use Rattle.wac_encode_stacks.specs.Listed.{AreListed}
use Rattle.wac_encode_scopes.specs.private.Interfaces.{own_items}
use Rattle.wac_encode_scopes.specs.declared.state.State.{State}
use Rattle.wac_encode_scopes.specs.States.{stack, Goes}
use Rattle.wac_encode_order.specs.private.Interfaces.{is_later_at}
use Rattle.wac_encode_values.specs.private.Values.{IsReady}
use Rattle.wac_encode_faults.specs.Faults.{listed_fault}
use Rattle.wac_encode_interfaces.specs.private.Worlds.{Worlds, HaveWorlds, HaveInterfaceWorlds}
use Rattle.wac_encode_interfaces.specs.private.Items.{HasInterfaceOf}
use Rattle.wac_encode_interfaces.specs.private.Ready.{IsInterfaceAt, IsInterfaceReady}
use Rattle.wac_encode_interfaces.specs.declared.level.Level.{Level}
use Rattle.wac_encode_interfaces.specs.private.Levels.{AreLevels}

-- The level is of an interface, which has no export twice. Its order has the position of each item that comes after the own
-- resources, once.
pub record IsLevel (c : Collection) (l : Level) : Type 0 where
  pub it : Interface
  pub interface : item_at c.interfaces l.interface.0 ≡ Some it
  pub names : NoNameTwice it.exports
  pub each : (p : ℕ) → (Contains l.order.items p ↔ is_later_at c it l.types_only p ≡ true)
  pub once : (i j p : ℕ) → slice_get l.order.items i ≡ Some p → slice_get l.order.items j ≡ Some p → i ≡ j

-- The level of the interface is new: none of its items is exported after the own resources.
abbrev pub IsNewLevel : InterfaceId → Bool → Level → Type 0
IsNewLevel i types_only l = (l.interface ≡ i) × (l.types_only ≡ types_only) × (l.next ≡ 0)

-- The level with one more item exported.
abbrev pub following : Level → Level
following l = record l { next = suc l.next }

-- The items at these positions, in their order.
abbrev pub items_at : List (Name × ItemKind) → List ℕ → List (Name × ItemKind)
items_at es ps = flat_map (λ p. option_case (slice_get es p) [] (λ e. e ∷ [])) ps

-- The items of an interface that a level has listed: its own resources, and the items up to the next one.
abbrev pub listed_items : Collection → Interface → Level → List (Name × ItemKind)
listed_items c it l = own_items c it.uses it.exports ++ items_at it.exports (take l.next l.order.items)

-- The scope exports what the level has listed.
abbrev pub HasListed : Collection → Bindings → Scope → Level → Type 0
HasListed c m e l = (it : Interface) → item_at c.interfaces l.interface.0 ≡ Some it → AreListed c m exported (listed_items c it l) e.exports

-- The bindings are those inside the level's interface.
abbrev pub IsInsideLevel : Collection → Bindings → Bindings → Level → Type 0
IsInsideLevel c m mo l = (it : Interface) → item_at c.interfaces l.interface.0 ≡ Some it → m ≡ inside_interface c it mo

-- The item is the next one that the level lists.
pub record IsNextItem (c : Collection) (l : Level) (n : Name) (k : ItemKind) : Type 0 where
  pub it : Interface
  pub interface : item_at c.interfaces l.interface.0 ≡ Some it
  pub position : ℕ
  pub next : slice_get l.order.items l.next ≡ Some position
  pub item : slice_get it.exports position ≡ Some (n, k)

-- The interface of an instance, or of a type item of an interface.
abbrev pub interface_of : ItemKind → Option InterfaceId
interface_of (kind.Instance i) = Some i
interface_of (kind.TypeItem (ty.Interface i)) = Some i
interface_of k = None

-- The waiting level has a next item, an instance or a type item of the interface.
abbrev pub WaitsFor : Collection → Level → InterfaceId → Type 0
WaitsFor c l i = (n : Name) × (k : ItemKind) × IsNextItem c l n k × (interface_of k ≡ Some i) × (l.next + 1 < 2 ^ 64)

-- The levels of a stack that was good under ms0 before the first of them was opened. The innermost level comes first, then
-- those that wait for it, from the inside out. An inner level is whole.
abbrev pub IsNest : Collection → InterfaceId → Bool → List Bindings → Stack → Level → List Level → List Bindings → Stack → Type 0
IsNest c i types_only ms0 st0 l [] (m ∷ ms) (o ∷ os) =
    (l.interface ≡ i) × (l.types_only ≡ types_only) × (ms ≡ ms0) × IsInsideLevel c m (top ms) l × HasListed c m (env o (envs os)) l × Grown (envs st0) (envs os)
IsNest c i types_only ms0 st0 l (k ∷ ks) (m ∷ ms) (o ∷ os) =
    (l.types_only ≡ false) × IsInsideLevel c m (top ms) l × HasListed c m (env o (envs os)) l × WaitsFor c k l.interface × IsNest c i types_only ms0 st0 k ks ms os
IsNest c i types_only ms0 st0 l ks _ _ = ⊥

-- The invariant of the loop over the levels: they are open over the scopes of old.
abbrev pub Nest : Collection → Bool → InterfaceId → Bool → State → Level → List Level → State → Type 0
Nest c b i types_only old l ks s = AreLevels b (suc (length ks)) old s
    × ((ms0 : List Bindings) → Good c ms0 (stack b old) → (ms : List Bindings) × Good c ms (stack b s) × IsNest c i types_only ms0 (stack b old) l ks ms (stack b s))
    × AllByRecursion (IsLevel c) (l ∷ ks)

-- The levels are open over the scopes of some state, in which the outermost interface could be written.
abbrev pub IsUnderWay : Collection → Bool → Worlds → State → Level → List Level → Type 0
IsUnderWay c b ws s l ks = (i : InterfaceId) × (types_only : Bool) × (old : State)
    × Nest c b i types_only old l ks s × IsInterfaceReady c b old types_only i × HaveInterfaceWorlds c ws types_only i

-- A step of the innermost level. The levels that wait for it are unchanged.
abbrev pub KeepsLevels : Collection → Bool → State → Level → State → Level → Type 0
KeepsLevels c b s l t l' = (i : InterfaceId) (types_only : Bool) (old : State) (ks : List Level) → Nest c b i types_only old l ks s → Nest c b i types_only old l' ks t

-- The innermost level was closed, and its index is k. The next level goes on, or else the outermost interface is written.
abbrev pub IsClosedInto : Collection → Bool → InterfaceId → Bool → State → List Level → State → ℕ → Type 0
IsClosedInto c b i types_only old [] s k = Goes c b old s × IsInterfaceAt c b s types_only i k
IsClosedInto c b i types_only old (l ∷ ks) s k = Nest c b i types_only old l ks s

-- All items of the level are exported.
abbrev pub IsEnded : Level → Type 0
IsEnded l = length l.order.items ≤ l.next

-- The level goes on with an interface that it waits for, or is ended.
abbrev pub IsFilled : Collection → Level → Option InterfaceId → Type 0
IsFilled c l None = IsEnded l
IsFilled c l (Some i) = WaitsFor c l i

-- If the level's next item is an instance or a type item of an interface, the innermost scope records that.
abbrev pub HasNext : Collection → Bool → State → Level → Type 0
HasNext c b s l = (n : Name) (k : ItemKind) → IsNextItem c l n k → HasInterfaceOf b s k

-- The next item of the level can be written, once its interface is recorded.
abbrev pub StaysReady : Collection → Bool → Worlds → State → Level → Type 0
StaysReady c b ws s l = (n : Name) (k : ItemKind) → IsNextItem c l n k
    → (holds_type c (kind_type k) ≡ true) × IsReady c b s (kind_type k) × (listed_fault k ≡ None) × HaveWorlds c ws (kind_type k)
