-- The elements of sections.
use Rattle.std.specs.Prelude.{ℕ}
use Rattle.wac_component.specs.Parts.{Part, core_instance_part, core_type_part, alias_part, canon_part}
use Rattle.wac_component.specs.Reader.{Reader, made}
use Rattle.wac_component.specs.CoreTypes.{core_type_at}
use Rattle.wac_component.specs.Types.{alias_at}
use Rattle.wac_component.specs.Canons.{canon_at}
use Rattle.wac_component.specs.Reading.{core_instance_at, instance_at, defined_at, import_at, export_at}
use Rattle.wac_reader_parts.specs.declared.sections.ElementKind.{ElementKind}
use Rattle.wac_reader_parts.specs.declared.sections.ElementKind.TheVariants as e

-- An element of a section, if types stand in types at most `depth` deep.
abbrev pub element_at : (depth : ℕ) → ElementKind → Reader Part
element_at depth e.CoreInstances = made core_instance_part core_instance_at
element_at depth e.CoreTypes = made core_type_part core_type_at
element_at depth e.Instances = instance_at
element_at depth e.Aliases = made alias_part alias_at
element_at depth e.Types = defined_at depth
element_at depth e.Canons = made canon_part canon_at
element_at depth e.Imports = import_at
element_at depth e.Exports = export_at
