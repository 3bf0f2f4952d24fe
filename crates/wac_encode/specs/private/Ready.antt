-- What may be written; private functions alone cite this.
use Rattle.std.specs.Prelude.{◌≡◌, Bool, true, Result, Ok, Err}
use Rattle.wac_types_shapes.specs.declared.shapes.component.«Type».{«Type» as AnyType}
use Rattle.wac_types_shapes.specs.declared.shapes.component.ItemKind.{ItemKind}
use Rattle.wac_types_shapes.specs.declared.shapes.component.ItemKind.TheVariants as kind
use Rattle.wac_types_shapes.specs.declared.shapes.component.«Type».TheVariants as ty
use Rattle.wac_types_collection.specs.collection.Collection.{Collection, holds_type}
use Rattle.wac_types_collection.specs.collection.Aliases.{value_resolved}
use Rattle.wac_types_collection.specs.collection.Bound.{Bindings}
use Rattle.wac_binary.specs.declared.fault.BinaryFault.{BinaryFault}
use Rattle.wac_binary.specs.declared.fault.BinaryFault.TheVariants as binary
use Rattle.wac_encode_faults.specs.declared.fault.EncodeFault.{EncodeFault}
use Rattle.wac_encode_faults.specs.declared.fault.EncodeFault.TheVariants as e
use Rattle.wac_encode_faults.specs.declared.fault.WriteFault.{WriteFault}
use Rattle.wac_encode_interfaces.specs.private.Definitions.{IsFaultlessDefinition}
use Rattle.wac_encode.specs.declared.state.State.{State}
use Rattle.wac_encode.specs.Errors.{HasTypeFault}
use Rattle.wac_encode.specs.Root.{IsStateFor}

-- The type may be written as it is.
pub record IsWritable (c : Collection) (b : Bool) (s : State) (a : AnyType) : Type 0 where
  pub held : holds_type c a ≡ true
  pub bindings : Bindings
  pub state : IsStateFor c b bindings s
  pub clean : (f : WriteFault) → HasTypeFault c bindings a f → ⊥

-- The type may be defined.
pub record MayDefine (c : Collection) (b : Bool) (s : State) (a : AnyType) : Type 0 where
  pub held : holds_type c a ≡ true
  pub bindings : Bindings
  pub state : IsStateFor c b bindings s
  pub clean : IsFaultlessDefinition c bindings a

-- The item that has the faults of a type that is written as it is, as an import.
abbrev pub item_of_type : AnyType → ItemKind
item_of_type (ty.Module m) = kind.Module m
item_of_type a = kind.TypeItem a

-- The error of a writer as one of a type encoder.
abbrev pub encode_fault : BinaryFault → EncodeFault
encode_fault binary.TooLarge = e.TooLarge
encode_fault binary.OutOfMemory = e.OutOfMemory

-- The result of a writer as one of a type encoder.
abbrev pub encode_result : {A : Type 0} → Result A BinaryFault → Result A EncodeFault
encode_result (Ok x) = Ok x
encode_result (Err f) = Err (encode_fault f)

-- The type under which a type item is recorded: a value type by the end of its aliases.
abbrev pub type_end : Collection → AnyType → AnyType
type_end c (ty.Value v) = ty.Value (value_resolved c v)
type_end c a = a

-- A type item of the type is recorded at its index.
abbrev pub IsRecordable : AnyType → Type 0
IsRecordable (ty.Resource r) = ⊥
IsRecordable (ty.Module m) = ⊥
IsRecordable a = Unit {0}
