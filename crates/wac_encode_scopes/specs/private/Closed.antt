-- Which definitions of a collection mention no resource, or none of some resources.
use Rattle.std.specs.Prelude.{◌≡◌, Bool, true, false, List, Option, Some, None, slice_get, Contains}
use Rattle.wac_types_shapes.specs.primitives.Name.{Name}
use Rattle.wac_types_shapes.specs.declared.shapes.component.ItemKind.{ItemKind}
use Rattle.wac_types_shapes.specs.declared.shapes.component.ResourceId.{ResourceId}
use Rattle.wac_types_shapes.specs.declared.shapes.component.DefinedTypeId.{DefinedTypeId}
use Rattle.wac_types_shapes.specs.declared.shapes.component.ValueType.TheVariants as val
use Rattle.wac_types_shapes.specs.declared.shapes.component.«Type».TheVariants as ty
use Rattle.wac_types_collection.specs.collection.Collection.{Collection, HasDefined}
use Rattle.wac_types_collection.specs.reach.Reach.{Reaches}
use Rattle.wac_encode_faults.specs.Free.{IsFree}
use Rattle.wac_encode_stacks.specs.Good.{IsClosed}
use Rattle.wac_encode_scopes.specs.private.Telling.{definition_in}
use Rattle.wac_encode_scopes.specs.declared.closed.ClosedTypes.{ClosedTypes}

-- The bit, or the other one if there is none.
abbrev pub bit_or_default : Bool → Option Bool → Bool
bit_or_default other None = other
bit_or_default other (Some b) = b

-- The bit, or false if there is none.
abbrev pub bit_at : Option Bool → Bool
bit_at o = bit_or_default false o

-- Whether the definition is one of them. Those without a bit are if rest is true.
abbrev pub is_closed_in : ClosedTypes → DefinedTypeId → Bool
is_closed_in x d = bit_or_default x.rest (slice_get x.closed.items d.0)

-- If is_closed, the definition mentions no resource. Otherwise it reaches one.
abbrev pub SaysClosed : Collection → DefinedTypeId → Bool → Type 0
SaysClosed c d true = IsClosed c (ty.Value (val.Defined d))
SaysClosed c d false = (r : ResourceId) × Reaches c (ty.Value (val.Defined d)) (ty.Resource r)

-- These are the closed definitions of the collection.
abbrev pub AreClosedTypes : Collection → ClosedTypes → Type 0
AreClosedTypes c x = (d : DefinedTypeId) → HasDefined c d → SaysClosed c d (is_closed_in x d)

-- If is_apart, none of these resources is free in the definition. Otherwise one of them is.
abbrev pub SaysApart : Collection → (ResourceId → Bool) → DefinedTypeId → Bool → Type 0
SaysApart c these d true = (r : ResourceId) → IsFree c (ty.Value (val.Defined d)) r → these r ≡ false
SaysApart c these d false = (r : ResourceId) × IsFree c (ty.Value (val.Defined d)) r × (these r ≡ true)

-- Of the definitions of the collection the test passes those in which none of these resources is free.
abbrev pub AreApartTypes : Collection → (ResourceId → Bool) → ClosedTypes → Type 0
AreApartTypes c these x = (d : DefinedTypeId) → HasDefined c d → SaysApart c these d (is_closed_in x d)

-- The definitions of the items all pass the test.
abbrev pub AllAreOf : Collection → List (Name × ItemKind) → (DefinedTypeId → Bool) → Type 0
AllAreOf c es test = (e : Name × ItemKind) (d : DefinedTypeId) → Contains es e → definition_in c e ≡ Some d → test d ≡ true

-- Of the definitions of the items the test passes those in which none of these resources is free.
abbrev pub AreApartItems : Collection → List (Name × ItemKind) → (ResourceId → Bool) → (DefinedTypeId → Bool) → Type 0
AreApartItems c es these test = (e : Name × ItemKind) (d : DefinedTypeId) → Contains es e → definition_in c e ≡ Some d → SaysApart c these d (test d)
