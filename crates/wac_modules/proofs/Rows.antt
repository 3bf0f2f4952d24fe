-- Worked examples of what is declared of a held core module type, computed.
use Rattle.std.specs.Prelude.{◌≡◌, [], ◌∷◌, None, false, true, refl}
use Rattle.wac_types_shapes.specs.declared.shapes.core_types.CoreExtern.{CoreExtern}
use Rattle.wac_types_shapes.specs.declared.shapes.core_types.CoreExtern.TheVariants as core
use Rattle.wac_types_shapes.specs.declared.primitives.core_types.CoreType.TheVariants.{I32, I64}
use Rattle.wac_types_shapes.specs.declared.shapes.core_types.ModuleType.{ModuleType}
use Rattle.wac_binary.specs.declared.core_types.EntityType.TheVariants as t
use Rattle.wac_binary.specs.Items.{module_import, module_func, module_export}
use Rattle.wac_binary.specs.Bytes.{module_bytes}
use Rattle.wac_binary.specs.Leb.{groups, leb}
use Rattle.wac_modules.specs.private.Declarations.{declarations_of}

-- a memory of one page at least
abbrev memory : CoreExtern
memory = core.Memory false false 1 None None

-- the function `f` of `m` imported, the memory `e` exported
abbrev plain : ModuleType
plain = record { imports = ((109 ∷ [], 102 ∷ []), core.Func (record { params = []; results = [] })) ∷ []; exports = (101 ∷ [], memory) ∷ [] }

plain_row : declarations_of plain ≡ module_func [] [] ∷ module_import (109 ∷ []) (102 ∷ []) (t.Function 0)
    ∷ module_export (101 ∷ []) (t.Memory (record { minimum = 1; maximum = None; memory64 = false; shared = false; page_size_log2 = None })) ∷ []
plain_row = refl

-- in bytes
plain_bytes : module_bytes (declarations_of plain) ≡ 0x50 ∷ 0x03 ∷ 0x01 ∷ 0x60 ∷ 0x00 ∷ 0x00 ∷ 0x00 ∷ 0x01 ∷ 0x6d ∷ 0x01 ∷ 0x66 ∷ 0x00 ∷ 0x00 ∷ 0x03 ∷ 0x01 ∷ 0x65 ∷ 0x02 ∷ 0x00 ∷ 0x01 ∷ []
unfolding groups leb
plain_bytes = refl

-- a function, a global, and a tag of the function's very type: each of the two has a type of its own
abbrev twice : ModuleType
twice = record {
  imports = [];
  exports = (102 ∷ [], core.Func (record { params = I32 ∷ []; results = [] })) ∷ (103 ∷ [], core.Global I64 true false) ∷ (116 ∷ [], core.Tag (record { params = I32 ∷ []; results = [] })) ∷ [];
}

twice_row : declarations_of twice ≡ module_func (I32 ∷ []) [] ∷ module_export (102 ∷ []) (t.Function 0)
    ∷ module_export (103 ∷ []) (t.Global (record { val_type = I64; mutable = true; shared = false }))
    ∷ module_func (I32 ∷ []) [] ∷ module_export (116 ∷ []) (t.Tag 1) ∷ []
twice_row = refl
