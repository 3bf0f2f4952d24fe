-- What items of interfaces and component types may cost. Private functions alone cite this.
use Rattle.std.specs.Prelude.{ℕ, ◌+◌, ◌*◌, ◌^◌, ◌≤◌, ◌≡◌, ◌⊎◌, Bool, true, false, List, [], ◌∷◌, ◌++◌, length, take, drop, slice_get, Option, Some, None, Result, Ok, Err, Contains}
use Rattle.std.specs.List.{flat_map, sum_by}
use Rattle.wac_types_shapes.specs.primitives.Name.{Name, option_case}
use Rattle.wac_types_shapes.specs.primitives.Tree.{Side, imported, exported}
use Rattle.wac_types_shapes.specs.shapes.Kinds.{kind_type}
use Rattle.wac_types_shapes.specs.declared.shapes.component.InterfaceId.{InterfaceId}
use Rattle.wac_types_shapes.specs.declared.shapes.component.WorldId.{WorldId}
use Rattle.wac_types_shapes.specs.declared.shapes.component.ModuleTypeId.{ModuleTypeId}
use Rattle.wac_types_shapes.specs.declared.shapes.component.ItemKind.{ItemKind}
use Rattle.wac_types_shapes.specs.declared.shapes.component.ItemKind.TheVariants as kind
use Rattle.wac_types_shapes.specs.declared.shapes.component.«Type».{«Type» as AnyType}
use Rattle.wac_types_shapes.specs.declared.shapes.component.«Type».TheVariants as ty
use Rattle.wac_types_collection.specs.collection.Collection.{Collection, item_at, kind_types, interface_exports}
use Rattle.wac_types_collection.specs.reach.Reach.{IsIn}
use Rattle.wac_types_weight.specs.Weight.{is_scope, near_all, optional_text, own, weight}
use Rattle.wac_types_weight.specs.Text.{own_texts, entry_weight, scope_weight}
use Rattle.wac_types_weight.specs.private.Laws.{IsNearClosed}
use Rattle.wac_binary.specs.Items.{Decl}
use Rattle.wac_binary.specs.Bytes.{decl_bytes}
use Rattle.wac_binary.specs.declared.fault.BinaryFault.{BinaryFault}
use Rattle.wac_binary.specs.declared.fault.BinaryFault.TheVariants.{TooLarge, OutOfMemory}
use Rattle.wac_encode_stacks.specs.Scopes.{Content, declarations}
use Rattle.wac_encode_scopes.specs.declared.encodable.Encodable.{Encodable}
use Rattle.wac_encode_scopes.specs.declared.scope.Scope.{Scope}
use Rattle.wac_encode_scopes.specs.declared.state.State.{State}
use Rattle.wac_encode_scopes.specs.private.Interfaces.{own_items}
use Rattle.wac_encode_scopes.specs.private.Paid.{CoversAll, HasNoRoom, IsPaid, IsPriced, MayEnclose, PayMoreIn, interface_cost, item_cost, total, type_cost, world_cost}
use Rattle.wac_encode_faults.specs.Sides.{Sides}
use Rattle.wac_encode_interfaces.specs.declared.level.Level.{Level}
use Rattle.wac_encode_interfaces.specs.declared.sides.Parts.{Parts}
use Rattle.wac_encode_interfaces.specs.private.Ordered.{is_additional, side_list}
use Rattle.wac_encode_interfaces.specs.private.Worlds.{Worlds}

-- Items of an interface.

-- What later aliases of the exports of an item in an open type may cost, if it is an instance.
abbrev pub told_cost : Collection → ItemKind → ℕ
told_cost c (kind.Instance i) = 10 * entry_weight c (ty.Interface i)
told_cost c k = 0

-- What an item of an open type may cost, besides what near types pay, once its interface is recorded.
abbrev pub added_cost : Collection → Name × ItemKind → ℕ
added_cost c e = 10 + 2 * length e.0 + type_cost c (declarations []) (kind_type e.1) + told_cost c e.1

-- A scope with this content may enclose what is written for the type: the instance type of an interface is opened inside.
abbrev pub MayHold : Bool → Encodable → AnyType → Type 0
MayHold b x (ty.Interface i) = MayEnclose b x
MayHold b x t = Unit {0}

-- What the interface of an item may cost, where it is written.
abbrev pub inside_cost : Collection → AnyType → ℕ
inside_cost c (ty.Interface i) = interface_cost c i
inside_cost c t = 0

-- What the own resources of an interface may cost.
abbrev pub own_cost : Collection → InterfaceId → ℕ
own_cost c i = option_case (item_at c.interfaces i.0) 0 (λ it. sum_by (λ e. 12 * (1 + length e.0)) (own_items c it.uses it.exports))

-- What the item at a position of an interface may cost; then what those that a level has exported, and all of a level.
abbrev pub cost_at : Collection → InterfaceId → ℕ → ℕ
cost_at c i p = option_case (slice_get (interface_exports c i) p) 0 (item_cost c)

abbrev pub exported_cost : Collection → Level → ℕ
exported_cost c l = sum_by (cost_at c l.interface) (take l.next l.order.items)

abbrev pub ordered_cost : Collection → Level → ℕ
ordered_cost c l = sum_by (cost_at c l.interface) l.order.items

-- What the next item of a level may cost, once its interface is recorded.
abbrev pub next_cost : Collection → Level → ℕ
next_cost c l = option_case (slice_get l.order.items l.next) 0 (λ p. option_case (slice_get (interface_exports c l.interface) p) 0 (added_cost c))

-- The list covers the types of all items of an interface.
abbrev pub CoversItems : Collection → List AnyType → InterfaceId → Type 0
CoversItems c ts i = CoversAll c ts (kind_types (interface_exports c i))

-- The items that a level exports between two states are paid, with types that cover them.
abbrev pub PaysItems : Collection → Bool → State → Level → State → Level → Type 0
PaysItems c b old l new m = (ts : List AnyType) → CoversItems c ts l.interface → IsPriced b old → (n : ℕ) × (exported_cost c l + n ≡ exported_cost c m) × IsPaid c b ts n old new

-- There is no room for the items of a level that are left.
abbrev pub HasNoRoomLeft : Collection → Bool → State → Level → Type 0
HasNoRoomLeft c b old l = (ts : List AnyType) → CoversItems c ts l.interface → IsPriced b old → (n : ℕ) × (exported_cost c l + n ≤ ordered_cost c l) × HasNoRoom c b ts n old

-- The innermost scope, an instance type, is closed. All are charged what they were, and the head of a type.
abbrev pub PaysClosed : Collection → Bool → State → State → Type 0
PaysClosed c b old new = (total c b new ≤ total c b old + 17) × ((outer : Scope) (rest : List Scope) → old.around.items ≡ rest ++ outer ∷ [] → PayMoreIn c b outer new.here × (new.around.items ≡ rest))

-- There is no room for the head of a type.
abbrev pub HasNoRoomToClose : Collection → Bool → State → Type 0
HasNoRoomToClose c b s = (2 ^ 32 ≤ total c b s + 17) ⊎ (2 ^ 32 ≤ length s.around.items)

-- Component types.

-- What an item of a side may cost, besides what near types pay. An additional import is an instance with its types only.
abbrev pub side_cost : Collection → Name → ItemKind → Bool → ℕ
side_cost c n (kind.Instance i) true = 10 + 2 * length n + interface_cost c i + 10 * entry_weight c (ty.Interface i)
side_cost c n k additional = item_cost c (n, k)

abbrev pub listed_cost : Collection → List (Name × ItemKind) → ℕ
listed_cost c es = sum_by (item_cost c) es

abbrev pub additional_cost : Collection → List (Name × ItemKind) → ℕ
additional_cost c es = sum_by (λ e. side_cost c e.0 e.1 true) es

-- The types of all items of the two sides that are no additional imports.
abbrev pub side_types : Sides → List AnyType
side_types s = kind_types (s.imports ++ s.exports)

-- What all items of the two sides may cost, and what is near them.
abbrev pub sides_cost : Collection → Sides → ℕ
sides_cost c s = listed_cost c s.imports + additional_cost c s.additional + listed_cost c s.exports + 27 * own_texts c (near_all c (side_types s))

-- What the item at a position of a side may cost; then all items of the side.
abbrev pub part_cost : Collection → Parts → Side → ℕ → Name → ItemKind → ℕ
part_cost c p side position n k = side_cost c n k (is_additional p side position)

abbrev pub part_at : Collection → Parts → Side → ℕ → ℕ
part_at c p side position = option_case (slice_get (side_list p side) position) 0 (λ e. part_cost c p side position e.0 e.1)

abbrev pub side_total : Collection → Parts → Side → ℕ
side_total c p imported = listed_cost c (take (length p.listed.now) p.imports.now) + additional_cost c (drop (length p.listed.now) p.imports.now)
side_total c p exported = listed_cost c p.exports.now

-- The list covers the types of all items of the two sides. An additional import is an interface.
pub record CoversSides (c : Collection) (ts : List AnyType) (s : Sides) : Type 0 where
  pub closed : IsNearClosed c ts
  pub there : (t : AnyType) → IsIn t (side_types s) → is_scope t ≡ false → IsIn t ts

-- The declarations, with so many bytes around them, have at most n. If the answer is `TooLarge`, n is 2 ^ 32 or more.
abbrev pub SizedWithin : ℕ → ℕ → Result (List Decl) BinaryFault → Type 0
SizedWithin around n (Ok ds) = around + length (flat_map decl_bytes ds) ≤ n
SizedWithin around n (Err TooLarge) = 2 ^ 32 ≤ n
SizedWithin around n (Err OutOfMemory) = Unit {0}

-- As SizedWithin with the head of a type, if there is a component type.
abbrev pub IsComponentWithin : ℕ → Result (Option (List Decl)) BinaryFault → Type 0
IsComponentWithin n (Ok None) = Unit {0}
IsComponentWithin n (Ok (Some ds)) = 17 + length (flat_map decl_bytes ds) ≤ n
IsComponentWithin n (Err TooLarge) = 2 ^ 32 ≤ n
IsComponentWithin n (Err OutOfMemory) = Unit {0}

-- The bytes of a world's id.
abbrev pub id_length : Collection → WorldId → ℕ
id_length c w = option_case (item_at c.worlds w.0) 0 (λ x. optional_text x.id)

-- What the head of a component type that exports a world costs, and the export.
abbrev pub around_world : Collection → WorldId → ℕ
around_world c w = 44 + 2 * id_length c w

-- One of these types is so heavy that it may not fit.
abbrev pub IsHeavy : Collection → List AnyType → Type 0
IsHeavy c ts = (t : AnyType) × Contains ts t × (2 ^ 32 ≤ 27 * scope_weight c t)

-- Each of these types weighs no more, where it is written, than one of the roots.
abbrev pub WeighNoMore : Collection → List AnyType → List AnyType → Type 0
WeighNoMore c roots ts = (t : AnyType) → Contains ts t → (r : AnyType) × Contains roots r × (scope_weight c t ≤ scope_weight c r)

-- Each of these types weighs no more, where it is written, than this type.
abbrev pub AreLight : Collection → AnyType → List AnyType → Type 0
AreLight c a ts = (t : AnyType) → Contains ts t → scope_weight c t ≤ weight c a

-- The component type of each world that is written costs no more than its weight allows.
abbrev pub AreSmallWorlds : Collection → Worlds → Type 0
AreSmallWorlds c ws = (w : WorldId) (ds : List Decl) → ws w ≡ Some ds → 17 + length (flat_map decl_bytes ds) ≤ world_cost c w

-- What a definition may cost in a scope, besides what near types pay.
abbrev pub definition_cost : Collection → Content → AnyType → ℕ
definition_cost c x (ty.Interface i) = 64 * weight c (ty.Interface i)
definition_cost c x (ty.World w) = 64 * weight c (ty.World w)
definition_cost c x t = type_cost c x t

-- What the type of a core module may cost: nothing if it is written.
abbrev pub module_cost : Collection → ModuleTypeId → Option ℕ → ℕ
module_cost c m known = option_case known (34 * own c (ty.Module m)) (λ i. 0)

-- What the type of an import of the root may cost, besides what near types pay.
abbrev pub import_type_cost : Collection → AnyType → ℕ
import_type_cost c (ty.Value v) = 12
import_type_cost c (ty.Interface i) = interface_cost c i
import_type_cost c (ty.World w) = world_cost c w
import_type_cost c t = 0
