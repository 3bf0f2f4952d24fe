-- What a call adds to the open scopes, and by what it is paid. Only contracts inside the encoder cite this file.
--
-- A scope is charged the size of its content, and what aliases of exports of its instances may still cost. Each type that a
-- scope records has paid a sum that its own weight bounds. A call may add to what all open scopes are charged together what
-- is newly paid in the innermost one, and no more than n besides. Nothing is asked of the scopes before the call.
use Rattle.std.specs.Prelude.{ℕ, zero, suc, ◌+◌, ◌*◌, ◌^◌, ◌≤◌, ◌≡◌, Bool, true, false, List, [], ◌∷◌, ◌++◌, length, Option, Some, None, Result, Ok, Err}
use Rattle.std.specs.List.{AllByRecursion, AllZip, sum_by}
use Rattle.wac_types_shapes.specs.primitives.Name.{Name, option_case}
use Rattle.wac_types_shapes.specs.shapes.Kinds.{kind_type}
use Rattle.wac_types_shapes.specs.declared.shapes.component.ItemKind.{ItemKind}
use Rattle.wac_types_shapes.specs.declared.shapes.component.ResourceId.{ResourceId}
use Rattle.wac_types_shapes.specs.declared.shapes.component.DefinedType.{DefinedType}
use Rattle.wac_types_shapes.specs.declared.shapes.component.FuncType.{FuncType}
use Rattle.wac_types_shapes.specs.declared.shapes.component.ValueType.{ValueType}
use Rattle.wac_binary.specs.Items.{ValueDef, TypeDef}
use Rattle.wac_binary.specs.Bytes.{value_def_bytes, type_bytes}
use Rattle.wac_types_collection.specs.reach.Reach.{IsIn}
use Rattle.wac_types_weight.specs.Weight.{named_parts, defined_parts}
use Rattle.wac_types_shapes.specs.declared.shapes.component.InterfaceId.{InterfaceId}
use Rattle.wac_types_shapes.specs.declared.shapes.component.WorldId.{WorldId}
use Rattle.wac_types_shapes.specs.declared.shapes.component.ValueType.TheVariants as val
use Rattle.wac_types_shapes.specs.declared.shapes.component.«Type».{«Type» as AnyType}
use Rattle.wac_types_shapes.specs.declared.shapes.component.«Type».TheVariants as ty
use Rattle.wac_types_collection.specs.collection.Collection.{Collection, HasResource}
use Rattle.wac_types_collection.specs.collection.Bound.{is_alias}
use Rattle.wac_types_weight.specs.Text.{own_text, own_texts, scope_weight, entry_weight, inner_weight}
use Rattle.wac_types_weight.specs.private.Laws.{Covers}
use Rattle.wac_binary.specs.declared.fault.BinaryFault.{BinaryFault}
use Rattle.wac_binary.specs.declared.fault.BinaryFault.TheVariants.{TooLarge, OutOfMemory}
use Rattle.wac_encode_stacks.specs.Scopes.{Content, declarations, root, Where, at_type, at_export, How, defined, brought, listed, Open}
use Rattle.wac_encode_stacks.specs.private.Sizes.{size_of}
use Rattle.wac_encode_scopes.specs.declared.encodable.Encodable.{Encodable}
use Rattle.wac_encode_scopes.specs.declared.encodable.Encodable.TheVariants.{Builder}
use Rattle.wac_encode_scopes.specs.declared.scope.Scope.{Scope}
use Rattle.wac_encode_scopes.specs.declared.state.State.{State}
use Rattle.wac_encode_scopes.specs.Books.{opened}
use Rattle.wac_encode_scopes.specs.States.{stack}
use Rattle.wac_encode_scopes.specs.private.Telling.{is_one_of}
pub use Rattle.wac_encode_scopes.specs.private.Limits.{IsShortPlace, IsLarge, IsTooLarge}

-- The sum over the numbers below n.
abbrev pub sum_below : (ℕ → ℕ) → ℕ → ℕ
sum_below f zero = 0
sum_below f (suc n) = f n + sum_below f n

-- What types pay in a scope: for the type index of a resource, for a handle, for a definition, for an outer alias of it, and
-- for an alias of an export. Last, what an alias of an export costs besides its name, if the export's entry pays for it.
pub record Prices : Type 0 where
  pub place : ℕ
  pub handle : ℕ
  pub definition : ℕ
  pub name : ℕ
  pub settled : ℕ
  pub alias : ℕ

-- In an open type; in the root for the merged collection; and there for the graph's own, whose users pay for aliases.
abbrev pub prices : Bool → Content → Prices
prices b (declarations ds) = record { place = 13; handle = 7; definition = 14; name = 13; settled = 0; alias = 9 }
prices true (root items) = record { place = 0; handle = 17; definition = 24; name = 0; settled = 0; alias = 19 }
prices false (root items) = record { place = 20; handle = 17; definition = 24; name = 0; settled = 20; alias = 0 }

-- The most that one unit of weight pays in a scope with these prices.
abbrev pub rate : Bool → Content → ℕ
rate b (declarations ds) = 27
rate true (root items) = 34
rate false (root items) = 54

-- What an alias of an export may still cost: an export that is not aliased yet, twice the bytes of its name besides.
abbrev pub alias_cost : ℕ → Option Where → ℕ
alias_cost k (Some (at_export j n)) = k + 2 * length n
alias_cost k w = 0

-- What aliases of exports that the scope records may still cost, of each resource and value type of the collection.
abbrev pub pending : Collection → Bool → Open → ℕ
pending c b o = sum_below (λ n. alias_cost (prices b o.content).alias (o.binds (record { 0 = n }))) (length c.resources)
    + sum_below (λ n. alias_cost (prices b o.content).alias (o.exports (record { 0 = n }))) (length c.defined)

-- What a scope is charged; then all open scopes together.
abbrev pub charge : Collection → Bool → Open → ℕ
charge c b o = size_of o.content + pending c b o

abbrev pub total : Collection → Bool → State → ℕ
total c b s = sum_by (charge c b) (stack b s)

-- x, if there is something.
abbrev pub if_some : {A : Type 0} → Option A → ℕ → ℕ
if_some o x = option_case o 0 (λ a. x)

-- x, if the type is at a type index.
abbrev pub if_index : Option Where → ℕ → ℕ
if_index (Some (at_type i)) x = x
if_index w x = 0

-- What a value type has paid: for its definition, and for its name once it has one.
abbrev pub paid_by : Prices → How → ℕ
paid_by p defined = p.definition
paid_by p brought = p.definition + p.name
paid_by p listed = p.definition + p.name

-- What each unit of a type's weight has paid in a scope. A resource pays for its place and for its handles.
abbrev pub paid_at : Prices → Open → AnyType → ℕ
paid_at p o (ty.Resource r) = if_index (o.binds r) p.place + if_some (o.types (ty.Value (val.Own r))) p.handle + if_some (o.types (ty.Value (val.Borrow r))) p.handle
paid_at p o (ty.Value (val.Defined d)) = option_case (o.types (ty.Value (val.Defined d))) 0 (λ x. paid_by p x.how) + if_index (o.exports d) p.settled
paid_at p o (ty.Func f) = if_some (o.types (ty.Func f)) p.definition
paid_at p o t = 0

abbrev pub paid_for : Collection → Bool → Open → AnyType → ℕ
paid_for c b o t = paid_at (prices b o.content) o t * own_text c t

abbrev pub all_paid : Collection → Bool → Open → List AnyType → ℕ
all_paid c b o ts = sum_by (paid_for c b o) ts

-- No type has paid less than before, in one scope; then in a scope of the code.
abbrev pub PayMore : Collection → Bool → Open → Open → Type 0
PayMore c b o p = (t : AnyType) → paid_for c b o t ≤ paid_for c b p t

abbrev pub PayMoreIn : Collection → Bool → Scope → Scope → Type 0
PayMoreIn c b s t = PayMore c b (opened b s) (opened b t)

-- What the open scopes are charged grows by no more than what these types pay newly in the innermost one, and n.
pub record IsPaid (c : Collection) (b : Bool) (ts : List AnyType) (n : ℕ) (old new : State) : Type 0 where
  pub pays : total c b new + all_paid c b (opened b old.here) ts ≤ total c b old + all_paid c b (opened b new.here) ts + n
  pub more : PayMore c b (opened b old.here) (opened b new.here)
  pub around : AllZip (PayMoreIn c b) old.around.items new.around.items
  pub priced : prices b (opened b new.here).content ≡ prices b (opened b old.here).content
  pub rated : rate b (opened b new.here).content ≡ rate b (opened b old.here).content

-- There is no room: what the scopes are charged comes to 2 ^ 32 with n and with what these types may still pay, or the
-- number of scopes does.
pub data HasNoRoom (c : Collection) (b : Bool) (ts : List AnyType) (n : ℕ) (s : State) : Type 0 where
  too_large : 2 ^ 32 + all_paid c b (opened b s.here) ts ≤ total c b s + rate b (opened b s.here).content * own_texts c ts + n → HasNoRoom c b ts n s
  too_deep : 2 ^ 32 ≤ length s.around.items + n → HasNoRoom c b ts n s

-- An open type is no root.
abbrev pub IsOpenType : Encodable → Type 0
IsOpenType (Builder items) = ⊥
IsOpenType x = Unit {0}

-- A scope with this content may enclose others: of the graph's own types, only if it is no root.
abbrev pub MayEnclose : Bool → Encodable → Type 0
MayEnclose true x = Unit {0}
MayEnclose false x = IsOpenType x

-- Only the bottom scope may be the root. Entries pay for aliases in all enclosing scopes: of the graph's own types, the
-- root encloses no scope.
abbrev pub ArePriced : Bool → List Scope → Encodable → Type 0
ArePriced b [] x = Unit {0}
ArePriced b (bottom ∷ around) x = MayEnclose b bottom.content × AllByRecursion (λ t. IsOpenType t.content) around × IsOpenType x

abbrev pub IsPriced : Bool → State → Type 0
IsPriced b s = ArePriced b s.around.items s.here.content

-- A fault that says that there is no room is right.
abbrev pub IsFaultPaid : Collection → Bool → List AnyType → ℕ → State → BinaryFault → Type 0
IsFaultPaid c b ts n old TooLarge = HasNoRoom c b ts n old
IsFaultPaid c b ts n old OutOfMemory = Unit {0}

abbrev pub IsAnswerPaid : {T : Type 0} → Collection → Bool → List AnyType → ℕ → State → State → Result T BinaryFault → Type 0
IsAnswerPaid c b ts n old new (Ok x) = IsPaid c b ts n old new
IsAnswerPaid c b ts n old new (Err e) = IsFaultPaid c b ts n old e

-- What a call adds is paid by these types and n. If it answers `TooLarge`, there was no room for what they pay.
abbrev pub PaidBy : {T : Type 0} → Collection → Bool → List AnyType → ℕ → State → State → Result T BinaryFault → Type 0
PaidBy c b ts n old new r = IsPriced b old → IsAnswerPaid c b ts n old new r

-- What a call adds for a type is paid by any types that cover it, and n.
abbrev pub PaidFor : {T : Type 0} → Collection → Bool → AnyType → ℕ → State → State → Result T BinaryFault → Type 0
PaidFor c b a n old new r = (ts : List AnyType) → Covers c ts a → PaidBy c b ts n old new r

-- There is one scope, which is charged nothing.
abbrev pub IsUncharged : Collection → Bool → State → Type 0
IsUncharged c b s = (total c b s ≡ 0) × (s.around.items ≡ []) × IsPriced b s

-- What a primitive type costs under an index of its own.
abbrev pub primitive_cost : Content → ℕ
primitive_cost (declarations ds) = 2
primitive_cost (root items) = 12

-- What an item of an open type may cost, besides what near types pay: its entry, and the weight of its interface or world,
-- which also pays for aliases of what it exports.
abbrev pub item_cost : Collection → Name × ItemKind → ℕ
item_cost c e = 12 * (1 + length e.0) + 27 * scope_weight c (kind_type e.1)

-- What recording the exports of an instance may cost in such a scope: later aliases of them.
abbrev pub telling_cost : Bool → Content → List (Name × ItemKind) → ℕ
telling_cost b x es = sum_by (λ e. (prices b x).alias + 2 * length e.0) es

-- What the instance type of an interface may cost: its head, its entries, and what is inside. Its types only cost no more.
abbrev pub interface_cost : Collection → InterfaceId → ℕ
interface_cost c i = 17 + 12 * entry_weight c (ty.Interface i) + 27 * inner_weight c (ty.Interface i)

-- What the component type of a world may cost.
abbrev pub world_cost : Collection → WorldId → ℕ
world_cost c w = 17 + 12 * entry_weight c (ty.World w) + 27 * inner_weight c (ty.World w)

-- What a type that an item mentions may cost, besides what near types pay: a primitive type gets an
-- index of its own, and a world is written. An interface is written before.
abbrev pub type_cost : Collection → Content → AnyType → ℕ
type_cost c x (ty.Value v) = primitive_cost x
type_cost c x (ty.Interface i) = 0
type_cost c x (ty.World w) = world_cost c w
type_cost c x t = 0

-- The innermost scope records the same types.
abbrev pub KeepsTypes : Bool → State → State → Type 0
KeepsTypes b old new = (a : AnyType) → (opened b new.here).types a ≡ (opened b old.here).types a

-- The resource is of the collection, and no alias.
abbrev pub IsOwnResource : Collection → ResourceId → Type 0
IsOwnResource c r = HasResource c r × (is_alias c r ≡ false)

-- None of these resources is recorded in the innermost scope.
abbrev pub AreUnrecorded : Bool → State → List ResourceId → Type 0
AreUnrecorded b s rs = (r : ResourceId) → is_one_of rs r ≡ true → (opened b s.here).binds r ≡ None

-- A definition of the held one: at most 13 bytes for each unit of its weight, and so of a function type.
abbrev pub IsSizedAs : DefinedType → ValueDef → Type 0
IsSizedAs x y = length (value_def_bytes y) ≤ 13 * (1 + defined_parts x)

abbrev pub IsFuncSizedAs : FuncType → TypeDef → Type 0
IsFuncSizedAs x y = length (type_bytes y) ≤ 13 * (1 + named_parts x.params)

-- The innermost scope, an instance type, is closed. All are charged what they were, and the head of a type.
abbrev pub ClosesPaid : {T : Type 0} → Collection → Bool → State → State → Result T BinaryFault → Type 0
ClosesPaid c b old new (Ok x) = (total c b new ≤ total c b old + 17) × ((outer : Scope) (rest : List Scope) → old.around.items ≡ rest ++ outer ∷ [] → PayMoreIn c b outer new.here × (new.around.items ≡ rest))
ClosesPaid c b old new (Err TooLarge) = 2 ^ 32 ≤ total c b old + 17
ClosesPaid c b old new (Err OutOfMemory) = Unit {0}

-- The list covers an optional value type; then all these types.
abbrev pub CoversPart : Collection → List AnyType → Option ValueType → Type 0
CoversPart c ts None = Unit {0}
CoversPart c ts (Some v) = Covers c ts (ty.Value v)

abbrev pub CoversAll : Collection → List AnyType → List AnyType → Type 0
CoversAll c ts us = (u : AnyType) → IsIn u us → Covers c ts u
