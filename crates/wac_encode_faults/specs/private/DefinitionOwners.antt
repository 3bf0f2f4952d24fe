-- The items that bind the free resources of types, by their numbers; private functions alone cite this.
use Rattle.std.specs.Prelude.{ℕ, ◌≡◌, ◌↔◌, List, Option, Some, None}
use Rattle.std.specs.BTreeSet.{BTreeSet}
use Rattle.std.specs.Map.{lookup}
use Rattle.wac_edges.specs.private.cycles.Numbers.{Has}
use Rattle.wac_types_shapes.specs.contracts.shapes.component.DefinedTypeIdPartialEq.TheImpl as DefinedEq
use Rattle.wac_types_shapes.specs.declared.shapes.component.DefinedTypeId.{DefinedTypeId}
use Rattle.wac_types_shapes.specs.declared.shapes.component.ResourceId.{ResourceId}
use Rattle.wac_types_shapes.specs.declared.shapes.component.ValueType.TheVariants as val
use Rattle.wac_types_shapes.specs.declared.shapes.component.«Type».{«Type» as AnyType}
use Rattle.wac_types_shapes.specs.declared.shapes.component.«Type».TheVariants as ty
use Rattle.wac_types_collection.specs.collection.Collection.{Collection}
use Rattle.wac_encode_faults.specs.Cycle.{owner_of}
use Rattle.wac_encode_faults.specs.Free.{IsFree}

-- The number is of an item that binds a free resource of the type.
abbrev pub IsOwnerOfType : Collection → List (ResourceId × ℕ) → AnyType → ℕ → Type 0
IsOwnerOfType c owners t b = (r : ResourceId) × IsFree c t r × (owner_of owners r ≡ Some b)

-- The set of a definition in a map.
abbrev pub numbers_of : List (DefinedTypeId × BTreeSet ℕ) → DefinedTypeId → Option (BTreeSet ℕ)
numbers_of entries d = lookup ((DefinedEq.ghosts).eq d) entries

-- Each set has the numbers of the items that bind a free resource of the definition.
abbrev pub AreDefinitionOwners : Collection → List (ResourceId × ℕ) → List (DefinedTypeId × BTreeSet ℕ) → Type 0
AreDefinitionOwners c owners entries = (d : DefinedTypeId) (s : BTreeSet ℕ) → numbers_of entries d ≡ Some s → (b : ℕ) → Has s.keys b ↔ IsOwnerOfType c owners (ty.Value (val.Defined d)) b

-- The definition, if the type is one.
abbrev pub definition_of : AnyType → Option DefinedTypeId
definition_of (ty.Value (val.Defined d)) = Some d
definition_of t = None
