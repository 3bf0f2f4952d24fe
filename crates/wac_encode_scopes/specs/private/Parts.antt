-- The parts of a definition by their positions.
use Rattle.std.specs.Prelude.{List, [], ◌∷◌, map, Option, Some}
use Rattle.wac_types_shapes.specs.primitives.Name.{Name}
use Rattle.wac_types_shapes.specs.declared.shapes.component.DefinedType.{DefinedType}
use Rattle.wac_types_shapes.specs.declared.shapes.component.DefinedType.TheVariants as def
use Rattle.wac_types_shapes.specs.declared.shapes.component.ValueType.{ValueType}

abbrev pub some_of : ValueType → Option ValueType
some_of v = Some v

abbrev pub second_of : Name × Option ValueType → Option ValueType
second_of e = e.1

abbrev pub some_second_of : Name × ValueType → Option ValueType
some_second_of e = Some e.1

-- The parts of a definition, in order. An optional part that is missing has a position too.
abbrev pub parts : DefinedType → List (Option ValueType)
parts (def.Tuple vs) = map some_of vs
parts (def.List v) = Some v ∷ []
parts (def.FixedSizeList v n) = Some v ∷ []
parts (def.Option v) = Some v ∷ []
parts (def.Result ok err) = ok ∷ err ∷ []
parts (def.Variant v) = map second_of v.cases
parts (def.Record r) = map some_second_of r.fields
parts (def.Flags names) = []
parts (def.Enum names) = []
parts (def.Alias v) = Some v ∷ []
parts (def.Stream v) = v ∷ []
parts (def.Future v) = v ∷ []
