-- What may be defined. Only private functions use this definition.
use Rattle.std.specs.Prelude.{◌≡◌, None}
use Rattle.wac_types_shapes.specs.primitives.Name.{Name}
use Rattle.wac_types_shapes.specs.declared.shapes.component.«Type».{«Type» as AnyType}
use Rattle.wac_graph_model.specs.nodes.Graph.{Graph, export_at}
use Rattle.wac_graph_model.specs.nodes.ExternName.{IsImportName}
use Rattle.wac_graph_model.specs.nodes.Definitions.{IsUndefined, IsResource}

-- The type may be defined under the name.
abbrev pub IsDefinable : Graph → Name → AnyType → Type 0
IsDefinable g name t = IsUndefined g t × (IsResource t → ⊥) × (export_at g name ≡ None) × IsImportName name
