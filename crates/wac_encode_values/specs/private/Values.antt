-- Value types of a collection as they are written in the innermost scope of a stack. The types of one of two collections
-- are written: of the merged one, or of the graph's own.
use Rattle.std.specs.Prelude.{ℕ, ◌≡◌, Bool, List, Some}
use Rattle.wac_types_shapes.specs.declared.shapes.component.DefinedTypeId.{DefinedTypeId}
use Rattle.wac_types_shapes.specs.declared.shapes.component.ValueType.{ValueType}
use Rattle.wac_types_shapes.specs.declared.shapes.component.ValueType.TheVariants as val
use Rattle.wac_types_shapes.specs.declared.shapes.component.«Type».{«Type» as AnyType}
use Rattle.wac_types_shapes.specs.declared.shapes.component.«Type».TheVariants as ty
use Rattle.wac_types_collection.specs.collection.Collection.{Collection}
use Rattle.wac_types_collection.specs.collection.Aliases.{value_resolved}
use Rattle.wac_types_collection.specs.collection.Bound.{Bindings}
use Rattle.wac_binary.specs.declared.types.ComponentValType.{ComponentValType}
use Rattle.wac_binary.specs.declared.types.ComponentValType.TheVariants.{Index}
use Rattle.wac_encode_stacks.specs.Scopes.{Where, at_type}
use Rattle.wac_encode_stacks.specs.Good.{Good, top, innermost, Holds}
use Rattle.wac_encode_stacks.specs.private.Parts.{Is}
use Rattle.wac_encode_scopes.specs.declared.state.State.{State}
use Rattle.wac_encode_scopes.specs.declared.closed.ClosedTypes.{ClosedTypes}
use Rattle.wac_encode_scopes.specs.Books.{opened}
use Rattle.wac_encode_scopes.specs.States.{stack, named_in, IsNamedAt, Crosses}
use Rattle.wac_encode_scopes.specs.private.Closed.{is_closed_in}

-- The scopes are good under some bindings, which bind each resource that the type mentions.
abbrev pub IsReady : Collection → Bool → State → AnyType → Type 0
IsReady c b s a = (ms : List Bindings) × Good c ms (stack b s) × Holds c (top ms) a

-- In the innermost scope the value type is written so, under all bindings under which the scopes are good.
abbrev pub IsWrittenAs : Collection → Bool → State → ValueType → ComponentValType → Type 0
IsWrittenAs c b s v x = (ms : List Bindings) → Good c ms (stack b s) → Is c (top ms) (innermost (stack b s)) (ty.Value v) x

-- The definition has a name in an enclosing scope or in the innermost one, and means the same here as there.
abbrev pub HasName : ClosedTypes → Bool → State → DefinedTypeId → Type 0
HasName closed b s d = (k : ℕ) × (w : Where) × IsNamedAt (stack b s) d k w × Crosses (is_closed_in closed d) k (stack b s)

-- If the definition at the end of the value type's aliases has a name, it is written by the index of its name in the
-- innermost scope.
abbrev pub IsByName : Collection → ClosedTypes → Bool → State → State → ValueType → ComponentValType → Type 0
IsByName c closed b old new v x = (d : DefinedTypeId) → value_resolved c v ≡ val.Defined d → HasName closed b old d
    → (i : ℕ) × (x ≡ Index i) × (named_in d (opened b new.here) ≡ Some (at_type i))
