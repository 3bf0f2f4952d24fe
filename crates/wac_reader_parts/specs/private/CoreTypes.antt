-- The value of the Rust type of limits, and the type declaration of a core module type.
use Rattle.std.specs.Prelude.{◌∷◌}
use Rattle.wac_reader_parts.specs.declared.entities.Limits.{Limits as LimitsType}
use Rattle.wac_binary.specs.Items.{ModuleDecl, module_func}
use Rattle.wac_component.specs.declared.fault.TextFault.TheVariants.{Misplaced}
use Rattle.wac_component.specs.Reader.{Reader, fails, one_of}
use Rattle.wac_component.specs.CoreTypes.{Limits, core_func_at, core_type_faults}

-- Limits.
abbrev pub limits_of : LimitsType → Limits
limits_of x = record { shared = x.shared; is64 = x.is64; minimum = x.minimum; maximum = x.maximum; page = x.page }

-- A type in a core module type, which cannot be a module type.
abbrev pub module_type_at : Reader ModuleDecl
module_type_at = one_of ((0x60, core_func_at module_func) ∷ (0x50, fails Misplaced) ∷ core_type_faults)
