-- The ranges of the limits of core items.
use Rattle.std.specs.Prelude.{◌<◌, ◌^◌, IfSome}
use Rattle.wac_types_shapes.specs.declared.shapes.core_types.CoreExtern.{CoreExtern}
use Rattle.wac_types_shapes.specs.declared.shapes.core_types.CoreExtern.TheVariants as core

-- The limits of a core item are numbers of 64 bits.
abbrev pub HasLimits : CoreExtern → Type 0
HasLimits (core.Table element least most wide shared) = (least < 2 ^ 64) × IfSome most (λ n. n < 2 ^ 64)
HasLimits (core.Memory wide shared least most page) = (least < 2 ^ 64) × IfSome most (λ n. n < 2 ^ 64) × IfSome page (λ n. n < 2 ^ 32)
HasLimits x = Unit {0}
