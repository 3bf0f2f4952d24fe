-- The core module types that are written in the root; private functions alone cite this.
use Rattle.std.specs.Prelude.{ℕ, ◌≡◌, Option, Some}
use Rattle.indexmap.specs.IndexMap.{get_by}
use Rattle.wac_types_shapes.specs.contracts.shapes.component.ModuleTypeIdPartialEq.TheImpl as IdEq
use Rattle.wac_types_shapes.specs.declared.shapes.component.ModuleTypeId.{ModuleTypeId}
use Rattle.wac_encode_scopes.specs.declared.state.State.{State}
use Rattle.wac_encode_interfaces.specs.private.Imports.{IsModuleAt}
use Rattle.wac_encode_imports.specs.declared.import.ImportWriter.{ImportWriter}
use Rattle.wac_encode_imports.specs.declared.modules.ModuleIndexes.{ModuleIndexes}

-- The core type index of a module type in a table, if it is written.
abbrev pub module_index : ModuleIndexes → ModuleTypeId → Option ℕ
module_index t k = get_by ((IdEq.ghosts).eq k) t.written

-- Each core type index of the table refers to its module type in the root.
abbrev pub AreModulesAt : ImportWriter → State → (ModuleTypeId → Option ℕ) → Type 0
AreModulesAt w s indexes = (k : ModuleTypeId) (i : ℕ) → indexes k ≡ Some i → IsModuleAt w.writer.types.now w.writer.merged s k i
