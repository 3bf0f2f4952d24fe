-- The types at the ends of aliases.
use Rattle.std.specs.Prelude.{ℕ, zero, suc, Option, Some, None}
use Rattle.wac_types_shapes.specs.primitives.Name.{option_case}
use Rattle.wac_types_collection.specs.collection.Collection.{Collection, size, item_at}
use Rattle.wac_types_collection.specs.collection.Held.{resolved}
use Rattle.wac_types_shapes.specs.declared.shapes.component.DefinedType.{DefinedType}
use Rattle.wac_types_shapes.specs.declared.shapes.component.DefinedType.TheVariants as def
use Rattle.wac_types_shapes.specs.declared.shapes.component.ValueType.{ValueType}
use Rattle.wac_types_shapes.specs.declared.shapes.component.ValueType.TheVariants as val
use Rattle.wac_types_shapes.specs.declared.shapes.component.«Type».{«Type» as AnyType}
use Rattle.wac_types_shapes.specs.declared.shapes.component.«Type».TheVariants as ty

-- The target of a definition that is an alias.
abbrev pub aliased : DefinedType → Option ValueType
aliased (def.Alias v) = Some v
aliased d = None

-- The target of a value type that is an alias.
abbrev pub target_of : Collection → ValueType → Option ValueType
target_of c (val.Defined d) = option_case (item_at c.defined d.0) None aliased
target_of c v = None

-- The end of a chain of at most n aliases of value types.
abbrev pub value_resolved_in : ℕ → Collection → ValueType → ValueType
value_resolved_in zero c v = v
value_resolved_in (suc n) c v = option_case (target_of c v) v (λ target. value_resolved_in n c target)

-- The value type at the end of the aliases. No chain is longer than the number of items.
abbrev pub value_resolved : Collection → ValueType → ValueType
value_resolved c = value_resolved_in (size c) c

-- A handle with the aliases of its resource resolved.
abbrev pub handle_resolved : Collection → ValueType → ValueType
handle_resolved c (val.Own r) = val.Own (resolved c r)
handle_resolved c (val.Borrow r) = val.Borrow (resolved c r)
handle_resolved c v = v

-- A type with its aliases resolved.
abbrev pub type_resolved : Collection → AnyType → AnyType
type_resolved c (ty.Resource r) = ty.Resource (resolved c r)
type_resolved c (ty.Value v) = ty.Value (handle_resolved c (value_resolved c v))
type_resolved c t = t
