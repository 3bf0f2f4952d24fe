-- Shapes as definitions.
use Rattle.std.specs.Prelude.{List, map, string_bytes}
use Rattle.std.specs.declared.string.String.{String}
use Rattle.wac_types_shapes.specs.primitives.Name.{Name}
use Rattle.wac_types_shapes.specs.declared.shapes.component.DefinedType.{DefinedType}
use Rattle.wac_types_shapes.specs.declared.shapes.component.DefinedType.TheVariants as def
use Rattle.wac_merge_tables.specs.declared.made.shapes.Shape.{Shape}
use Rattle.wac_merge_tables.specs.declared.made.shapes.Shape.TheVariants as shape

-- Names and their values.
abbrev pub pairs : {A V : Type 0} → List (String A × V) → List (Name × V)
pairs es = map (λ e. (string_bytes e.0, e.1)) es

-- The definition of a shape.
abbrev pub shape_view : Shape → DefinedType
shape_view (shape.Tuple vs) = def.Tuple vs.items
shape_view (shape.List v) = def.List v
shape_view (shape.FixedSizeList v n) = def.FixedSizeList v n
shape_view (shape.Option v) = def.Option v
shape_view (shape.Result ok err) = def.Result ok err
shape_view (shape.Variant cases) = def.Variant (record { cases = pairs cases.items })
shape_view (shape.Record fields) = def.Record (record { fields = pairs fields.items })
shape_view (shape.Flags names) = def.Flags (record { 0 = map string_bytes names.items })
shape_view (shape.Enum names) = def.Enum (record { 0 = map string_bytes names.items })
shape_view (shape.Alias v) = def.Alias v
shape_view (shape.Stream v) = def.Stream v
shape_view (shape.Future v) = def.Future v
