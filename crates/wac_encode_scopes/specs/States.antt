-- The open scopes of the code as a stack, and what a call on them does for the types of one of the two collections:
-- the merged one, or the graph's own.
use Rattle.std.specs.Prelude.{ℕ, ◌≡◌, Bool, true, false, not, List, [], ◌∷◌, ◌++◌, Some, Option, None, zero, suc, ◌⊎◌}
use Rattle.std.specs.List.{AllZip}
use Rattle.wac_types_shapes.specs.declared.shapes.component.ResourceId.{ResourceId}
use Rattle.wac_types_shapes.specs.primitives.Tree.{Leaf, resource, Tree}
use Rattle.wac_types_collection.specs.collection.Collection.{Collection}
use Rattle.wac_types_collection.specs.collection.Bound.{Bindings}
use Rattle.wac_types_shapes.specs.declared.shapes.component.ValueType.TheVariants as val
use Rattle.wac_types_shapes.specs.declared.shapes.component.«Type».TheVariants as ty
use Rattle.wac_encode_scopes.specs.declared.scope.Scope.{Scope}
use Rattle.wac_encode_scopes.specs.declared.state.State.{State}
use Rattle.wac_encode_scopes.specs.Contents.{AddsTypes}
use Rattle.wac_encode_scopes.specs.Books.{opened, book_of}
use Rattle.wac_encode_stacks.specs.Scopes.{Where, at_type, at_export, Stack, How, defined, brought, listed, Indexed, Open}
use Rattle.wac_encode_stacks.specs.Good.{At, Good, top, Onward, innermost, IsHeld, IsOf}
use Rattle.wac_encode_stacks.specs.private.Beside.{all_written_as}
use Rattle.wac_encode_stacks.specs.private.Parts.{IsWritten, IsWrittenFunc}
use Rattle.wac_binary.specs.Items.{ValueDef, TypeDef}
use Rattle.wac_types_shapes.specs.declared.shapes.component.DefinedType.{DefinedType}
use Rattle.wac_types_shapes.specs.declared.shapes.component.FuncType.{FuncType}
use Rattle.wac_types_shapes.specs.declared.shapes.component.«Type».{«Type» as AnyType}
use Rattle.wac_encode_stacks.specs.private.Brought.{AllPass}
use Rattle.wac_types_shapes.specs.declared.shapes.component.DefinedTypeId.{DefinedTypeId}

-- The scopes of a list that begins with the bottom one, the innermost first.
abbrev pub outward : Bool → List Scope → Stack
outward b [] = []
outward b (s ∷ ss) = outward b ss ++ opened b s ∷ []

abbrev pub stack : Bool → State → Stack
stack b s = opened b s.here ∷ outward b s.around.items

-- Only types and aliases of types are appended to each scope.
abbrev pub AllAddTypes : State → State → Type 0
AllAddTypes old new = AddsTypes old.here.content new.here.content × AllZip (λ s t. AddsTypes s.content t.content) old.around.items new.around.items

-- A step for the types of one collection. What is recorded of the other's types is unchanged. Only types and aliases of
-- types are appended.
pub record Goes (c : Collection) (b : Bool) (old new : State) : Type 0 where
  pub onward : (ms : List Bindings) → Good c ms (stack b old) → Onward c ms (stack b old) (stack b new)
  pub other : stack (not b) new ≡ all_written_as (stack b new) (stack (not b) old)
  pub types : AllAddTypes old new

-- A step for the types of one collection, whatever that collection is.
abbrev pub GoesForAll : Bool → State → State → Type 0
GoesForAll b old new = (c : Collection) → Goes c b old new

-- The value type definition is written with parts in scope, under all bindings under which the scopes are good.
abbrev pub SaysWritten : Collection → Bool → State → DefinedType → ValueDef → Type 0
SaysWritten c b s x y = (ms : List Bindings) → Good c ms (stack b s) → IsWritten c (top ms) (innermost (stack b s)) x y

-- The function type is written with parts in scope, under all bindings under which the scopes are good.
abbrev pub SaysWrittenFunc : Collection → Bool → State → FuncType → TypeDef → Type 0
SaysWrittenFunc c b s x d = (ms : List Bindings) → Good c ms (stack b s) → IsWrittenFunc c (top ms) (innermost (stack b s)) x d

-- The innermost scope records the type at this index, and what gave the index.
abbrev pub IsRecordedAt : Bool → State → AnyType → How → ℕ → Type 0
IsRecordedAt b s a how i = (opened b s.here).types a ≡ Some (record { index = i; how = how })

-- The type index in the innermost scope refers to the type, under all bindings under which the scopes are good.
abbrev pub IsTypeAt : Collection → Bool → State → AnyType → ℕ → Type 0
IsTypeAt c b s a i = (ms : List Bindings) → Good c ms (stack b s) → (t : Tree) × IsHeld c (top ms) a t × IsOf a t × At ((innermost (stack b s)).types) i t

-- The place is a type index if is_type is true, or else an export of the instance with this index.
abbrev pub IsPlace : Where → ℕ → Bool → Type 0
IsPlace (at_type i) k is_type = (k ≡ i) × (is_type ≡ true)
IsPlace (at_export j n) k is_type = (k ≡ j) × (is_type ≡ false)

-- The scopes are good under some bindings, which bind the resource in the innermost scope.
abbrev pub IsBound : Bool → State → ResourceId → Type 0
IsBound b s r = (c : Collection) × (ms : List Bindings) × (l : Leaf) × Good c ms (stack b s) × (top ms r ≡ Some l)

-- The type index in the innermost scope refers to the resource, under all bindings under which the scopes are good.
abbrev pub IsResourceAt : Bool → State → ResourceId → ℕ → Type 0
IsResourceAt b s r i = (c : Collection) (ms : List Bindings) → Good c ms (stack b s) → (l : Leaf) × (top ms r ≡ Some l) × At ((innermost (stack b s)).types) i (resource l)

-- The place of a value type that has a name in a scope. Its index is that of a type import, a type export or an alias,
-- or it is an export of an instance.
abbrev pub named_by : How → ℕ → Option Where → Option Where
named_by defined i w = w
named_by brought i w = Some (at_type i)
named_by listed i w = Some (at_type i)

abbrev pub named_of : Option Indexed → Option Where → Option Where
named_of None w = w
named_of (Some x) w = named_by x.how x.index w

abbrev pub named_in : DefinedTypeId → Open → Option Where
named_in d o = named_of (o.types (ty.Value (val.Defined d))) (o.exports d)

-- The innermost scope in which the value type has a name is k scopes out, and has it at the place w.
abbrev pub IsNamedAt : Stack → DefinedTypeId → ℕ → Where → Type 0
IsNamedAt [] d k w = ⊥
IsNamedAt (o ∷ os) d zero w = named_in d o ≡ Some w
IsNamedAt (o ∷ os) d (suc k) w = (named_in d o ≡ None) × IsNamedAt os d k w

-- The scopes before the one k scopes out pass, or is_closed says that the type mentions no resource.
abbrev pub Crosses : Bool → ℕ → Stack → Type 0
Crosses is_closed k st = (is_closed ≡ true) ⊎ AllPass k st

-- The records of the innermost scope change by f for the types of one collection. Nothing else changes.
pub record RecordsHere (b : Bool) (f : Open → Open) (old new : State) : Type 0 where
  pub here : opened b new.here ≡ f (opened b old.here)
  pub other : opened (not b) new.here ≡ opened (not b) old.here
  pub content : new.here.content ≡ old.here.content
  pub around : new.around ≡ old.around

-- All records and the enclosing scopes are unchanged.
abbrev pub KeepsRecords : State → State → Type 0
KeepsRecords old new = (new.around ≡ old.around) × ((b : Bool) → book_of b new.here ≡ book_of b old.here)
