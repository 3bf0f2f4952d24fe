-- The value types that words say.
use Rattle.std.specs.Prelude.{◌≡◌, ◌≢◌, ◌++◌, List, Option, Some, None, codes}
use Rattle.std.specs.List.{AllZip}
use Rattle.wac_types_shapes.specs.primitives.Name.{Name}
use Rattle.wac_types_shapes.specs.declared.primitives.PrimitiveType.{PrimitiveType}
use Rattle.wac_types_shapes.specs.declared.primitives.PrimitiveType.TheVariants as primitive_type
use Rattle.wac_types_shapes.specs.declared.shapes.component.ResourceId.{ResourceId}
use Rattle.wac_types_shapes.specs.declared.shapes.component.ValueType.{ValueType}
use Rattle.wac_types_shapes.specs.declared.shapes.component.ValueType.TheVariants as val
use Rattle.wac_script.specs.lines.Words.{Word, IsPair, HasNoPair, HasNoPrefix}
use Rattle.wac_script.specs.declared.labels.things.Thing.TheVariants as thing
use Rattle.wac_script.specs.labels.Things.{Labelling, IsThing}

-- The word of a primitive type.
abbrev pub primitive_word : PrimitiveType → Word
primitive_word primitive_type.Bool = codes "bool"
primitive_word primitive_type.S8 = codes "s8"
primitive_word primitive_type.U8 = codes "u8"
primitive_word primitive_type.S16 = codes "s16"
primitive_word primitive_type.U16 = codes "u16"
primitive_word primitive_type.S32 = codes "s32"
primitive_word primitive_type.U32 = codes "u32"
primitive_word primitive_type.S64 = codes "s64"
primitive_word primitive_type.U64 = codes "u64"
primitive_word primitive_type.F32 = codes "f32"
primitive_word primitive_type.F64 = codes "f64"
primitive_word primitive_type.Char = codes "char"
primitive_word primitive_type.String = codes "string"
primitive_word primitive_type.ErrorContext = codes "error-context"

-- The word is not that of a primitive type.
abbrev pub IsNoPrimitive : Word → Type 0
IsNoPrimitive word = (p : PrimitiveType) → word ≢ primitive_word p

-- The word is this value type: a primitive type, a handle to the resource of a label, or the value type of a label.
pub data IsValue (labels : Labelling) (word : Word) (v : ValueType) : Type 0 where
  primitive : (p : PrimitiveType) → word ≡ primitive_word p → v ≡ val.Primitive p → IsValue labels word v
  own : (label : Word) (r : ResourceId) → IsNoPrimitive word → word ≡ codes "own:" ++ label → IsThing labels label (thing.Resource r) → v ≡ val.Own r → IsValue labels word v
  borrow : (label : Word) (r : ResourceId) → IsNoPrimitive word → word ≡ codes "borrow:" ++ label → IsThing labels label (thing.Resource r) → v ≡ val.Borrow r → IsValue labels word v
  labelled : IsNoPrimitive word → HasNoPrefix (codes "own:") word → HasNoPrefix (codes "borrow:") word → IsThing labels word (thing.Value v) → IsValue labels word v

-- The word is this value type, or `_` for none.
abbrev pub IsPayload : Labelling → Word → Option ValueType → Type 0
IsPayload labels word None = word ≡ codes "_"
IsPayload labels word (Some v) = (word ≢ codes "_") × IsValue labels word v

-- The words are these value types, in order.
abbrev pub AreValues : Labelling → List Word → List ValueType → Type 0
AreValues labels words values = AllZip (λ word v. IsValue labels word v) words values

-- The word is `NAME=TYPE`.
abbrev pub IsField : Labelling → Word → Name → ValueType → Type 0
IsField labels word name v = (ty : Word) × IsPair word name ty × IsValue labels ty v

-- The words are these names with value types, in order.
abbrev pub AreFields : Labelling → List Word → List (Name × ValueType) → Type 0
AreFields labels words fields = AllZip (λ word f. IsField labels word f.0 f.1) words fields

-- The word is `NAME` or `NAME=TYPE`.
abbrev pub IsCase : Labelling → Word → Name → Option ValueType → Type 0
IsCase labels word name None = HasNoPair word × (name ≡ word)
IsCase labels word name (Some v) = IsField labels word name v

-- The words are these names with payloads, in order.
abbrev pub AreCases : Labelling → List Word → List (Name × Option ValueType) → Type 0
AreCases labels words cases = AllZip (λ word c. IsCase labels word c.0 c.1) words cases
