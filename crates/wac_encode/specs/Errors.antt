-- The errors of a type encoder: which faults a type has, and which of them an error names.
use Rattle.std.specs.Prelude.{◌≡◌, ◌⊎◌, Some, None, Result, Ok, Err}
use Rattle.wac_types_shapes.specs.declared.shapes.component.«Type».{«Type» as AnyType}
use Rattle.wac_types_collection.specs.collection.Collection.{Collection}
use Rattle.wac_types_collection.specs.collection.Bound.{Bindings}
use Rattle.wac_encode_faults.specs.declared.fault.EncodeFault.{EncodeFault}
use Rattle.wac_encode_faults.specs.declared.fault.EncodeFault.TheVariants as e
use Rattle.wac_encode_faults.specs.declared.fault.WriteFault.{WriteFault}
use Rattle.wac_encode_faults.specs.declared.fault.WriteFault.TheVariants as fault
use Rattle.wac_encode_faults.specs.Faults.{IsFaultInside, IsLowest}
use Rattle.wac_encode_faults.specs.Free.{IsUnbound}

-- A type that is written as it is has this fault, where resources are bound by m: a free resource is not bound, or a fault is inside.
abbrev pub HasTypeFault : Collection → Bindings → AnyType → WriteFault → Type 0
HasTypeFault c m a f = (IsUnbound c m a × (f ≡ fault.UnboundResource)) ⊎ IsFaultInside c a f

-- An error that names a fault names the lowest of these. If the call succeeds or a size does not fit, there is none.
abbrev pub NamesLowest : {A : Type 0} → (WriteFault → Type 0) → Result A EncodeFault → Type 0
NamesLowest Is (Ok x) = IsLowest Is None
NamesLowest Is (Err (e.Write f)) = IsLowest Is (Some f)
NamesLowest Is (Err e.TooLarge) = IsLowest Is None
NamesLowest Is (Err e.OutOfMemory) = Unit {0}
