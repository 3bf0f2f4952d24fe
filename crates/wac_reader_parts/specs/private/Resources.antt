-- Resource types after their first byte.
use Rattle.std.specs.Prelude.{◌∷◌, []}
use Rattle.wac_types_shapes.specs.declared.primitives.core_types.CoreType.{CoreType}
use Rattle.wac_types_shapes.specs.declared.primitives.core_types.CoreType.TheVariants as c
use Rattle.wac_component.specs.Parts.{ResourceDef, resource_def, async_resource_def}
use Rattle.wac_component.specs.Reader.{Reader, made2, made3, one_in}
use Rattle.wac_component.specs.Numbers.{number_at, optional_at}

-- The representation of a resource, and the type of a slot.
abbrev pub integer_at : Reader CoreType
integer_at = one_in ((0x7f, c.I32) ∷ (0x7e, c.I64) ∷ [])

-- A resource type.
abbrev pub plain_resource_at : Reader ResourceDef
plain_resource_at = made2 resource_def integer_at (optional_at number_at)

-- A resource type with an async destructor.
abbrev pub async_resource_at : Reader ResourceDef
async_resource_at = made3 async_resource_def integer_at number_at (optional_at number_at)
