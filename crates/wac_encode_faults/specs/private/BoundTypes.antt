-- Types of which each free resource is bound.
use Rattle.std.specs.Prelude.{◌≡◌, true, List, Contains}
use Rattle.wac_types_shapes.specs.declared.shapes.component.ResourceId.{ResourceId}
use Rattle.wac_types_shapes.specs.declared.shapes.component.«Type».{«Type» as AnyType}
use Rattle.wac_types_shapes.specs.declared.shapes.component.«Type».TheVariants as ty
use Rattle.wac_types_collection.specs.collection.Collection.{Collection, holds_type}
use Rattle.wac_types_collection.specs.collection.Held.{resolved}
use Rattle.wac_types_collection.specs.reach.Reach.{IsIn}
use Rattle.wac_encode_faults.specs.declared.bound_types.BoundTypes.{BoundTypes}
use Rattle.wac_encode_faults.specs.Free.{parts}

-- The types are of the collection, with all that they are made of, and each resource among them is bound.
pub record AreBoundWithParts (c : Collection) (bound : List ResourceId) (ts : List AnyType) : Type 0 where
  pub held : (t : AnyType) → IsIn t ts → holds_type c t ≡ true
  pub closed : (t u : AnyType) → IsIn t ts → IsIn u (parts c t) → IsIn u ts
  pub resources : (r : ResourceId) → IsIn (ty.Resource r) ts → Contains bound (resolved c r)

-- The same of the types that were found together.
abbrev pub AreBoundTypes : Collection → List ResourceId → BoundTypes → Type 0
AreBoundTypes c bound s = AreBoundWithParts c bound s.types.keys
