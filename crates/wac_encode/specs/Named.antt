-- Value types that have a name in the component.
use Rattle.std.specs.Prelude.{ℕ, ◌≡◌, Bool, Some}
use Rattle.wac_types_shapes.specs.declared.shapes.component.DefinedTypeId.{DefinedTypeId}
use Rattle.wac_types_shapes.specs.declared.shapes.component.ValueType.{ValueType}
use Rattle.wac_types_shapes.specs.declared.shapes.component.ValueType.TheVariants as val
use Rattle.wac_types_collection.specs.collection.Aliases.{value_resolved}
use Rattle.wac_types_collection.specs.collection.Collection.{Collection}
use Rattle.wac_binary.specs.declared.types.ComponentValType.{ComponentValType}
use Rattle.wac_binary.specs.declared.types.ComponentValType.TheVariants.{Index}
use Rattle.wac_encode_stacks.specs.Scopes.{Where, at_type}
use Rattle.wac_encode_scopes.specs.Books.{opened}
use Rattle.wac_encode_scopes.specs.States.{named_in}
use Rattle.wac_encode.specs.declared.state.State.{State}

-- The definition has its name at this place: the type index of a type import, a type export or an alias, or an export of an instance.
abbrev pub IsNamedIn : Bool → State → DefinedTypeId → Where → Type 0
IsNamedIn b s d w = named_in d (opened b s.scopes.here) ≡ Some w

-- The definition has a name.
abbrev pub HasNameIn : Bool → State → DefinedTypeId → Type 0
HasNameIn b s d = (w : Where) × IsNamedIn b s d w

-- If the definition at the end of the value type's aliases has a name, the value type is used by the type index of its name.
abbrev pub IsUsedByName : Collection → Bool → State → State → ValueType → ComponentValType → Type 0
IsUsedByName c b old new v x = (d : DefinedTypeId) → value_resolved c v ≡ val.Defined d → HasNameIn b old d → (i : ℕ) × (x ≡ Index i) × IsNamedIn b new d (at_type i)
