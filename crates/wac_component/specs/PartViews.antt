-- The parts that the program's values are. Where a part stands in the file is no part of it.
use Rattle.std.specs.Prelude.{ℕ, List, map}
use Rattle.wac_component.specs.declared.parts.Entry.{Entry}
use Rattle.wac_component.specs.declared.parts.Parts.{Parts as ReadParts}
use Rattle.wac_component.specs.declared.parts.Part.{Part as ReadPart}
use Rattle.wac_component.specs.declared.parts.Part.TheOpen.{Part-F}
use Rattle.wac_component.specs.declared.parts.Part.TheOpen as p
use Rattle.wac_component.specs.declared.parts.Part.TheFolds.{fold-Part}
use Rattle.wac_component.specs.Parts.{Part, custom_part, module_part, core_instance_part, core_type_part, component_part, instantiate_part, exports_part, alias_part, type_part, resource_part, canon_part, import_part, export_part, Parts, parts}
use Rattle.wac_component.specs.Views.{type_of, argument_of, inline_export_of}
use Rattle.wac_component.specs.CoreViews.{core_instance_of, core_type_of, any_alias_of, resource_of, canon_of}

-- One layer of a part, with what the parts in it are in their place.
abbrev pub part_layer : Part-F Part → Part
part_layer (p.Custom name bytes) = custom_part name.now bytes.now
part_layer (p.CoreModule bytes) = module_part bytes.now
part_layer (p.CoreInstance x) = core_instance_part (core_instance_of x)
part_layer (p.CoreType x) = core_type_part (core_type_of x.value)
part_layer (p.Component entries) = component_part (parts (map (λ e. e.part) entries.items))
part_layer (p.Instantiate c arguments) = instantiate_part c (map argument_of arguments.items)
part_layer (p.Exports exports) = exports_part (map inline_export_of exports.items)
part_layer (p.Alias x) = alias_part (any_alias_of x)
part_layer (p.«Type» x) = type_part (type_of x)
part_layer (p.Resource x) = resource_part (resource_of x)
part_layer (p.Canon x) = canon_part (canon_of x)
part_layer (p.Import name x) = import_part name.now x
part_layer (p.Export name sort index ascription) = export_part name.now sort index ascription

abbrev pub part_of : ReadPart → Part
part_of = fold-Part Part part_layer

-- The parts of entries, without their places.
abbrev pub parts_of_entries : List (Entry ReadPart) → List Part
parts_of_entries entries = map (λ e. part_of e.part) entries

-- The parts of a component.
abbrev pub parts_view : ReadParts → Parts
parts_view x = parts (parts_of_entries x.entries.items)
