-- Whether value types are closed, by the bits of the definitions before them. Only contracts of private functions use this.
use Rattle.std.specs.Prelude.{ℕ, ◌≡◌, Bool, true, false, not, List, Option, Some, None, slice_get}
use Rattle.wac_types_shapes.specs.declared.shapes.component.DefinedType.{DefinedType}
use Rattle.wac_types_shapes.specs.declared.shapes.component.ResourceId.{ResourceId}
use Rattle.wac_types_shapes.specs.declared.shapes.component.ValueType.{ValueType}
use Rattle.wac_types_shapes.specs.declared.shapes.component.ValueType.TheVariants as val
use Rattle.wac_types_collection.specs.collection.Collection.{Collection}
use Rattle.wac_types_collection.specs.collection.Held.{resolved}
use Rattle.wac_encode_scopes.specs.private.Parts.{parts}
use Rattle.wac_encode_scopes.specs.private.Closed.{bit_at}

abbrev pub value_bit : List Bool → ValueType → Bool
value_bit bits (val.Primitive p) = true
value_bit bits (val.Own r) = false
value_bit bits (val.Borrow r) = false
value_bit bits (val.Defined d) = bit_at (slice_get bits d.0)

abbrev pub part_bit : List Bool → Option ValueType → Bool
part_bit bits None = true
part_bit bits (Some v) = value_bit bits v

-- All parts of the definition are closed if the result is true. Otherwise one is not.
abbrev pub SaysParts : List Bool → DefinedType → Bool → Type 0
SaysParts bits x true = (k : ℕ) (v : ValueType) → slice_get (parts x) k ≡ Some (Some v) → value_bit bits v ≡ true
SaysParts bits x false = (k : ℕ) × (v : ValueType) × (slice_get (parts x) k ≡ Some (Some v)) × (value_bit bits v ≡ false)

-- The same for value types in which none of these resources is free.
abbrev pub apart_value_bit : Collection → (ResourceId → Bool) → List Bool → ValueType → Bool
apart_value_bit c these bits (val.Primitive p) = true
apart_value_bit c these bits (val.Own r) = not (these (resolved c r))
apart_value_bit c these bits (val.Borrow r) = not (these (resolved c r))
apart_value_bit c these bits (val.Defined d) = bit_at (slice_get bits d.0)

abbrev pub apart_part_bit : Collection → (ResourceId → Bool) → List Bool → Option ValueType → Bool
apart_part_bit c these bits None = true
apart_part_bit c these bits (Some v) = apart_value_bit c these bits v

abbrev pub SaysApartParts : Collection → (ResourceId → Bool) → List Bool → DefinedType → Bool → Type 0
SaysApartParts c these bits x true = (k : ℕ) (v : ValueType) → slice_get (parts x) k ≡ Some (Some v) → apart_value_bit c these bits v ≡ true
SaysApartParts c these bits x false = (k : ℕ) × (v : ValueType) × (slice_get (parts x) k ≡ Some (Some v)) × (apart_value_bit c these bits v ≡ false)
