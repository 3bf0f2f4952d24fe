-- The text of a component, as a function from bytes to parts: the grammar of Binary.md.
use Rattle.std.specs.Prelude.{ℕ, zero, suc, List, [], ◌∷◌, ◌++◌, take, drop, Result, Ok, Err, if◌then◌else◌}
use Rattle.std.specs.List.{flat_map}
use Rattle.wac_types_shapes.specs.declared.primitives.core_types.CoreType.{CoreType}
use Rattle.wac_types_shapes.specs.declared.primitives.core_types.CoreType.TheVariants as c
use Rattle.wac_binary.specs.declared.sorts.Sort.{Sort}
use Rattle.wac_component.specs.declared.fault.TextFault.{TextFault}
use Rattle.wac_component.specs.declared.fault.TextFault.TheVariants.{UnknownByte, NoPreamble, Unsupported}
use Rattle.wac_component.specs.declared.fault.Feature.TheVariants.{CoreModule, TooDeep, Values}
use Rattle.wac_types_shapes.specs.primitives.Name.{Name, same_name}
use Rattle.wac_component.specs.Parts.{CoreInstance, core_instantiate, core_exports, ResourceDef, resource_def, async_resource_def, Part, custom_part, module_part, core_instance_part, core_type_part, component_part, instantiate_part, exports_part, alias_part, type_part, resource_part, canon_part, import_part, export_part, Parts, parts}
use Rattle.wac_component.specs.Reader.{Reader, fails, ◌>>=◌, made, made2, made3, byte, all_bytes, chosen, one_of, one_in, rows, whole, within, to_end}
use Rattle.wac_component.specs.Numbers.{number_at, sized_at, name_at, extern_name_at, vector_at, optional_at}
use Rattle.wac_component.specs.CoreTypes.{core_type_at}
use Rattle.wac_component.specs.Types.{core_sort_at, sort_at, alias_at, description_at, type_defs, type_at}
use Rattle.wac_component.specs.Canons.{canon_at}

-- `core:instantiatearg`: a name, and a core instance
unfoldable pub core_argument_at : Reader (Name × ℕ)
core_argument_at = do
  name ← name_at
  one_of ((0x12, made (λ i. (name, i)) number_at) ∷ [])

-- `core:instanceexpr`
unfoldable pub core_instance_at : Reader CoreInstance
core_instance_at = one_of (
    (0, made2 core_instantiate number_at (vector_at core_argument_at))
    ∷ (1, made core_exports (vector_at (made3 (λ name t i. (name, t, i)) name_at core_sort_at number_at)))
    ∷ [])

-- A name with a `sortidx`.
abbrev pub sorted : Reader Name → Reader (Name × Sort × ℕ)
sorted r = made3 (λ name t i. (name, t, i)) r sort_at number_at

-- `instanceexpr`
unfoldable pub instance_at : Reader Part
instance_at = one_of (
    (0, made2 instantiate_part number_at (vector_at (sorted name_at)))
    ∷ (1, made exports_part (vector_at (sorted extern_name_at)))
    ∷ [])

-- `resourcetype`
abbrev pub resource_defs : List (ℕ × Reader ResourceDef)
resource_defs = (0x3f, made2 resource_def representation_at (optional_at number_at)) ∷ (0x3e, made3 async_resource_def representation_at number_at (optional_at number_at)) ∷ []
  where
    representation_at : Reader CoreType
    representation_at = one_in ((0x7f, c.I32) ∷ (0x7e, c.I64) ∷ [])

-- `deftype`
unfoldable pub defined_at : (depth : ℕ) → Reader Part
defined_at depth = one_of (rows (made resource_part) resource_defs ++ rows (made type_part) (type_defs (type_at depth)))

-- `import`
unfoldable pub import_at : Reader Part
import_at = made2 import_part extern_name_at description_at

-- `export`
unfoldable pub export_at : Reader Part
export_at = do
  name ← extern_name_at
  made3 (export_part name) sort_at number_at (optional_at description_at)

-- The first bytes of a core module, and those of a component.
abbrev pub module_preamble : List ℕ
module_preamble = 0x00 ∷ 0x61 ∷ 0x73 ∷ 0x6d ∷ 0x01 ∷ 0x00 ∷ 0x00 ∷ 0x00 ∷ []

abbrev pub preamble : List ℕ
preamble = 0x00 ∷ 0x61 ∷ 0x73 ∷ 0x6d ∷ 0x0d ∷ 0x00 ∷ 0x01 ∷ 0x00 ∷ []

-- A core module: its preamble, and then any bytes.
unfoldable pub module_at : Reader Part
module_at bytes = if same_name (take 8 bytes) module_preamble then Ok (module_part bytes, []) else Err NoPreamble

-- The contents of each section, by its id, if `inner` reads a component, and types stand in types at most `depth` deep.
abbrev pub sections : (depth : ℕ) → (inner : List ℕ → Result Parts TextFault) → List (ℕ × Reader (List Part))
sections depth inner =
    (0, one (made2 custom_part name_at all_bytes))
    ∷ (1, one module_at)
    ∷ (2, vector_at (made core_instance_part core_instance_at))
    ∷ (3, vector_at (made core_type_part core_type_at))
    ∷ (4, one (made component_part (within_all inner)))
    ∷ (5, vector_at instance_at)
    ∷ (6, vector_at (made alias_part alias_at))
    ∷ (7, vector_at (defined_at depth))
    ∷ (8, vector_at (made canon_part canon_at))
    ∷ (9, fails (Unsupported Values))
    ∷ (10, vector_at import_at)
    ∷ (11, vector_at export_at)
    ∷ (12, fails (Unsupported Values))
    ∷ []
  where
    one : Reader Part → Reader (List Part)
    one r = made (λ x. x ∷ []) r

    within_all : (List ℕ → Result Parts TextFault) → Reader Parts
    within_all f bytes = elim (f bytes) [ Ok ps ↦ Ok (ps, []) | Err fault ↦ Err fault ]

-- `section`: its id, its size, and contents of that size, used up.
unfoldable pub section_at : List (ℕ × Reader (List Part)) → Reader (List Part)
section_at table = do
  id ← byte
  contents ← sized_at
  within (chosen (fails UnknownByte) table id) contents

-- The preamble of a component.
unfoldable pub preamble_at : Reader (Unit {0})
preamble_at bytes =
    if same_name (take 8 bytes) preamble then Ok (tt, drop 8 bytes)
    else if same_name (take 8 bytes) module_preamble then Err (Unsupported CoreModule)
    else Err NoPreamble

-- The parts of a component (`component`). Components, and types in types, are nested at most `depth` deep, and the component itself counts.
unfoldable pub parts_at : (depth : ℕ) → List ℕ → Result Parts TextFault
parts_at zero bytes = Err (Unsupported TooDeep)
parts_at (suc depth) bytes = whole (do
  start ← preamble_at
  made (λ found. parts (flat_map (λ ps. ps) found)) (to_end (section_at (sections depth (parts_at depth))))) bytes

-- The parts of the component that these bytes are the text of, nested at most a hundred deep.
unfoldable pub parts_of : List ℕ → Result Parts TextFault
parts_of bytes = parts_at 100 bytes
