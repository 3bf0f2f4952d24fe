-- Laws of weights.
use Rattle.std.specs.Prelude.{ℕ, ◌+◌, ◌≡◌, ◌≤◌, true, false, List, ◌∷◌, ◌++◌, Contains, slice_get, Some}
use Rattle.std.specs.List.{sum_by}
use Rattle.wac_types_shapes.specs.declared.shapes.component.InterfaceId.{InterfaceId}
use Rattle.wac_types_shapes.specs.declared.shapes.component.WorldId.{WorldId}
use Rattle.wac_types_shapes.specs.declared.shapes.component.ResourceId.{ResourceId}
use Rattle.wac_types_shapes.specs.declared.shapes.component.ValueType.{ValueType}
use Rattle.wac_types_shapes.specs.declared.shapes.component.«Type».{«Type» as AnyType}
use Rattle.wac_types_shapes.specs.declared.shapes.component.«Type».TheVariants as ty
use Rattle.wac_types_collection.specs.collection.Collection.{Collection, IsWellFormed, holds_type, HasInterface, HasWorld, world_imports, world_exports}
use Rattle.wac_types_collection.specs.collection.Held.{resolved}
use Rattle.wac_types_collection.specs.collection.Aliases.{value_resolved}
use Rattle.wac_types_collection.specs.reach.Reach.{mentions, IsIn}
use Rattle.wac_types_collection.specs.wide.Wide.{UsesWidely, used_interfaces, world_uses, instances_of}
use Rattle.wac_types_weight.specs.Weight.{own, owns, near, near_all, scopes_in, weight, is_scope}
use Rattle.wac_types_weight.specs.Text.{own_texts, item_types, entry_weight, inner_weight, scope_weight, types_weight}

-- The weight of a type is its own, once each the own of what is near it, and the weights of interfaces and worlds.
abbrev pub WeighsItsParts : Type 0
WeighsItsParts = (c : Collection) (t : AnyType) → IsWellFormed c → holds_type c t ≡ true → weight c t ≡ own c t + owns c (near c t) + sum_by (weight c) (scopes_in c (t ∷ near c t))

-- The list has what its types mention, interfaces and worlds aside.
abbrev pub IsNearClosed : Collection → List AnyType → Type 0
IsNearClosed c ts = (t u : AnyType) → IsIn t ts → IsIn u (mentions c t) → is_scope u ≡ false → IsIn u ts

-- The type can be written with what is in the list: it is an interface or a world, or in the list with what it reaches.
pub record Covers (c : Collection) (ts : List AnyType) (t : AnyType) : Type 0 where
  pub closed : IsNearClosed c ts
  pub there : is_scope t ≡ false → IsIn t ts

-- What is near types covers them.
abbrev pub NearIsClosed : Type 0
NearIsClosed = (c : Collection) (ts : List AnyType) → IsWellFormed c → (t : AnyType) → IsIn t ts → Covers c (near_all c ts) t

-- A list that covers a type covers the end of its aliases; then that of a resource.
abbrev pub CoversEnd : Type 0
CoversEnd = (c : Collection) (ts : List AnyType) (v : ValueType) → Covers c ts (ty.Value v) → Covers c ts (ty.Value (value_resolved c v))

abbrev pub CoversResource : Type 0
CoversResource = (c : Collection) (ts : List AnyType) (r : ResourceId) → Covers c ts (ty.Resource r) → Covers c ts (ty.Resource (resolved c r))

-- A list that covers a type covers what the type mentions.
abbrev pub CoversMention : Type 0
CoversMention = (c : Collection) (ts : List AnyType) (t u : AnyType) → is_scope t ≡ false → Covers c ts t → IsIn u (mentions c t) → Covers c ts u

-- A list that covers types of another list weighs at least what is near these.
abbrev pub NearIsLeast : Type 0
NearIsLeast = (c : Collection) (ts us : List AnyType) → ((t : AnyType) → IsIn t ts → Covers c us t) → own_texts c (near_all c ts) ≤ own_texts c us

-- What is near types together weighs no more than what is near each of several lists that have them.
abbrev pub NearTogether : Type 0
NearTogether = (c : Collection) (tss : List (List AnyType)) (ts : List AnyType) → IsWellFormed c → ((t : AnyType) → IsIn t ts → is_scope t ≡ false → (us : List AnyType) × Contains tss us × IsIn t us)
    → own_texts c (near_all c ts) ≤ sum_by (λ us. own_texts c (near_all c us)) tss

-- The weight of an interface or a world where it is written: 1, its items, and what is inside.
abbrev pub ScopeWeighsItsParts : Type 0
ScopeWeighsItsParts = (c : Collection) (t : AnyType) → IsWellFormed c → holds_type c t ≡ true → is_scope t ≡ true → scope_weight c t ≡ 1 + entry_weight c t + inner_weight c t

-- Another type has no such weight.
abbrev pub PlainHasNone : Type 0
PlainHasNone = (c : Collection) (t : AnyType) → is_scope t ≡ false → scope_weight c t ≡ 0

-- Items are a part of the own weight of an interface or a world.
abbrev pub OwnHasItems : Type 0
OwnHasItems = (c : Collection) (t : AnyType) → holds_type c t ≡ true → is_scope t ≡ true → 1 + entry_weight c t ≤ own c t

-- The weight where it is written is a part of the weight.
abbrev pub TextIsLess : Type 0
TextIsLess = (c : Collection) (t : AnyType) → IsWellFormed c → holds_type c t ≡ true → scope_weight c t ≤ weight c t

-- The types of items weigh less than their interface or world.
abbrev pub NestsLess : Type 0
NestsLess = (c : Collection) (t u : AnyType) → IsWellFormed c → holds_type c t ≡ true → is_scope t ≡ true → IsIn u (item_types c t) → 1 + scope_weight c u ≤ scope_weight c t

-- No interface occurs twice in the list.
abbrev pub AreDifferent : List InterfaceId → Type 0
AreDifferent is = (i j : ℕ) (x : InterfaceId) → slice_get is i ≡ Some x → slice_get is j ≡ Some x → i ≡ j

-- An interface uses another widely, or uses one widely from which uses lead to it.
pub data LeadsTo (c : Collection) : InterfaceId → InterfaceId → Type 0 where
  at_once : (i j : InterfaceId) → UsesWidely c i j → LeadsTo c i j
  further : (i j k : InterfaceId) → UsesWidely c i j → LeadsTo c j k → LeadsTo c i k

-- A world uses the interface, or uses lead to it from one of the world's instances; then what that leads to.
pub data WorldLeadsTo (c : Collection) (w : WorldId) : InterfaceId → Type 0 where
  used : (i : InterfaceId) → Contains (used_interfaces (world_uses c w)) i → WorldLeadsTo c w i
  listed : (i j : InterfaceId) → Contains (instances_of (world_imports c w ++ world_exports c w)) i → LeadsTo c i j → WorldLeadsTo c w j
  onward : (i j : InterfaceId) → WorldLeadsTo c w i → LeadsTo c i j → WorldLeadsTo c w j

-- The weight of an interface pays for the interface with its types, and for each one to which uses lead from it, once.
abbrev pub UsesAreLess : Type 0
UsesAreLess = (c : Collection) (i : InterfaceId) (is : List InterfaceId) → IsWellFormed c → HasInterface c i → AreDifferent is → ((j : InterfaceId) → Contains is j → LeadsTo c i j)
    → types_weight c i + sum_by (types_weight c) is ≤ weight c (ty.Interface i)

-- The weight of a world pays for what is written of it, and for each interface to which uses lead from it, once.
abbrev pub WorldUsesAreLess : Type 0
WorldUsesAreLess = (c : Collection) (w : WorldId) (is : List InterfaceId) → IsWellFormed c → HasWorld c w → AreDifferent is → ((j : InterfaceId) → Contains is j → WorldLeadsTo c w j)
    → own c (ty.World w) + inner_weight c (ty.World w) + sum_by (types_weight c) is ≤ weight c (ty.World w)
