-- The items that a core module imports and exports.
use Rattle.std.specs.Prelude.{ℕ, Bool, List, Option}
use Rattle.wac_types_shapes.specs.declared.primitives.core_types.CoreType.{CoreType}
use Rattle.wac_types_shapes.specs.declared.primitives.core_types.CoreRefType.{CoreRefType}

-- An import or export of a core module; `no_item` for a name that is not there.
pub data CoreItem : Type 0 where
  no_item : CoreItem
  -- Parameters, results.
  core_function : List CoreType → List CoreType → CoreItem
  -- Element type, 64-bit, shared, minimum, maximum.
  core_table : CoreRefType → Bool → Bool → ℕ → Option ℕ → CoreItem
  -- 64-bit, shared, minimum, maximum, log2 of the page size.
  core_memory : Bool → Bool → ℕ → Option ℕ → Option ℕ → CoreItem
  -- Value type, mutable, shared.
  core_global : CoreType → Bool → Bool → CoreItem
  -- Parameters, results.
  core_tag : List CoreType → List CoreType → CoreItem
