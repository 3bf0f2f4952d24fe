-- The value types that items export and use. A value type is known by its definition, with aliases resolved. Primitive
-- types and handles have none.
use Rattle.std.specs.Prelude.{◌==◌, Bool, false, if◌then◌else◌, List, [], ◌∷◌, Option, Some, None}
use Rattle.std.specs.List.{list_any}
use Rattle.wac_types_shapes.specs.primitives.Name.{Name, option_case}
use Rattle.wac_types_collection.specs.collection.Collection.{Collection}
use Rattle.wac_types_collection.specs.collection.Aliases.{value_resolved}
use Rattle.wac_types_collection.specs.collection.Uses.{used_item}
use Rattle.wac_types_shapes.specs.declared.shapes.component.DefinedTypeId.{DefinedTypeId}
use Rattle.wac_types_shapes.specs.declared.shapes.component.UsedType.{UsedType}
use Rattle.wac_types_shapes.specs.declared.shapes.component.ValueType.{ValueType}
use Rattle.wac_types_shapes.specs.declared.shapes.component.ValueType.TheVariants as val
use Rattle.wac_types_shapes.specs.declared.shapes.component.«Type».TheVariants as ty
use Rattle.wac_types_shapes.specs.declared.shapes.component.ItemKind.{ItemKind}
use Rattle.wac_types_shapes.specs.declared.shapes.component.ItemKind.TheVariants as kind

-- The definition of a value type.
abbrev pub definition : ValueType → Option DefinedTypeId
definition (val.Defined d) = Some d
definition v = None

-- The value type of a type item, with aliases resolved.
abbrev pub listed_value : Collection → ItemKind → Option DefinedTypeId
listed_value c (kind.TypeItem (ty.Value v)) = definition (value_resolved c v)
listed_value c k = None

-- The definition is this one.
abbrev pub is_value : DefinedTypeId → Option DefinedTypeId → Bool
is_value d None = false
is_value d (Some q) = q.0 == d.0

-- The first name under which these items have a value type.
abbrev pub value_name : Collection → List (Name × ItemKind) → DefinedTypeId → Option Name
value_name c [] d = None
value_name c (e ∷ rest) d = if is_value d (listed_value c e.1) then Some e.0 else value_name c rest d

-- The value type that a use names: the one that the used interface exports under its name there.
abbrev pub used_value : Collection → Name × UsedType → Option DefinedTypeId
used_value c e = option_case (used_item c e.0 e.1) None (listed_value c)

-- The value type is among those used.
abbrev pub uses_value : Collection → List (Name × UsedType) → DefinedTypeId → Bool
uses_value c uses d = list_any (λ e. is_value d (used_value c e)) uses
