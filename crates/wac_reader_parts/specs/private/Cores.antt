-- The exports that a core instance is made of.
use Rattle.std.specs.Prelude.{ℕ}
use Rattle.wac_types_shapes.specs.primitives.Name.{Name}
use Rattle.wac_component.specs.Parts.{CoreSort, CoreInstance, core_exports}
use Rattle.wac_component.specs.Reader.{Reader, made, made3}
use Rattle.wac_component.specs.Numbers.{number_at, name_at, vector_at}
use Rattle.wac_component.specs.Types.{core_sort_at}

-- A name with a core sort and an index (`core:inlineexport`).
unfoldable pub core_export_at : Reader (Name × CoreSort × ℕ)
core_export_at = made3 (λ name t i. (name, t, i)) name_at core_sort_at number_at

-- The exports of a core instance.
unfoldable pub core_exports_at : Reader CoreInstance
core_exports_at = made core_exports (vector_at core_export_at)
