-- What types are made of; private functions alone cite this.
use Rattle.std.specs.Prelude.{◌≡◌, List}
use Rattle.wac_types_shapes.specs.declared.shapes.component.«Type».{«Type» as AnyType}
use Rattle.wac_types_shapes.specs.declared.shapes.component.ResourceId.{ResourceId}
use Rattle.wac_types_shapes.specs.declared.shapes.component.«Type».TheVariants as ty
use Rattle.wac_types_collection.specs.collection.Collection.{Collection}
use Rattle.wac_types_collection.specs.collection.Held.{resolved}
use Rattle.wac_types_collection.specs.reach.Reach.{IsIn}
use Rattle.wac_encode_faults.specs.Free.{parts}

-- The type is one of these, or a part of one that is a part of these.
pub data IsPart (c : Collection) (ts : List AnyType) : AnyType → Type 0 where
  first : (t : AnyType) → IsIn t ts → IsPart c ts t
  onward : (u t : AnyType) → IsPart c ts u → IsIn t (parts c u) → IsPart c ts t

-- The type is a resource, and this is the end of its aliases.
abbrev pub IsResolved : Collection → AnyType → ResourceId → Type 0
IsResolved c t r = (q : ResourceId) × (t ≡ ty.Resource q) × (r ≡ resolved c q)

-- One of the types is such.
abbrev pub HasResolved : Collection → List AnyType → ResourceId → Type 0
HasResolved c ts r = (t : AnyType) × IsIn t ts × IsResolved c t r
