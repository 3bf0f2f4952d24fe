-- What is written of a graph at most, in bytes, part by part. Proofs alone cite this.
use Rattle.std.specs.Prelude.{ℕ, ◌+◌, ◌*◌, ◌≤◌, Bool, true, false, if◌then◌else◌, length}
use Rattle.std.specs.List.{sum_by}
use Rattle.std.specs.FinMap as finite
use Rattle.semver.specs.Identifiers.{parts_text}
use Rattle.wac_types_shapes.specs.primitives.Name.{Name, option_case}
use Rattle.wac_types_shapes.specs.declared.shapes.component.WorldId.{WorldId}
use Rattle.wac_types_shapes.specs.declared.shapes.component.«Type».TheVariants as ty
use Rattle.wac_types_collection.specs.collection.Collection.{Collection, IsWellFormed}
use Rattle.wac_types_collection.specs.collection.Package.{PackageParts}
use Rattle.wac_types_weight.specs.Weight.{item_weight}
use Rattle.wac_types_weight.specs.Text.{entry_weight, inner_weight}
use Rattle.wac_edges.specs.Edge.{node_number}
use Rattle.wac_edges.specs.declared.node.NodeId.{NodeId}
use Rattle.wac_graph_model.specs.declared.nodes.options.EncodeOptions.{EncodeOptions}
use Rattle.wac_graph_model.specs.declared.nodes.options.Processor.{Processor}
use Rattle.wac_graph_model.specs.declared.nodes.packages.Slot.{Slot}
use Rattle.wac_graph_model.specs.nodes.Graph.{Graph, GraphNode, Kind, definition, import, instantiation, alias, node_at, imports_of, package_of}
use Rattle.wac_graph_model.specs.nodes.Sound.{IsSound}
use Rattle.wac_graph_model.specs.weight.GraphWeight.{kind_weight, bound}
use Rattle.wac_graph_model.specs.private.weight.AskedWeight.{node_asks}

-- The component type of a world.
abbrev pub component_cost : Collection → WorldId → ℕ
component_cost c w = 17 + 12 * entry_weight c (ty.World w) + 27 * inner_weight c (ty.World w)

-- A node, without its exports, its name and its package. An import is written before; an instantiation has arguments, and
-- the component type of its package if that is imported.
abbrev pub node_cost : Graph → EncodeOptions → ℕ → GraphNode → Kind → ℕ
node_cost g o n node definition = 12 + 64 * item_weight g.types node.item_kind
node_cost g o n node (import name) = 0
node_cost g o n node instantiation = 18 + sum_by (λ e. 9 + 2 * length e.0) (imports_of g node) + (if o.define_components then 0 else option_case (package_of g node) 0 (λ p. component_cost g.types p.world))
node_cost g o n node alias = 20 + 2 * kind_weight g n node alias

-- The name of a node, with the heads of its subsection and of the section.
abbrev pub name_cost : GraphNode → ℕ
name_cost node = option_case node.name 0 (λ name. 41 + 2 * length name)

-- A node with its name.
abbrev pub written_cost : Graph → EncodeOptions → ℕ → ℕ
written_cost g o n = option_case (node_at g (node_number n)) 0 (λ node. node_cost g o n node node.kind + name_cost node)

-- A package: its bytes, or the import of a component under its name and version.
abbrev pub package_cost : Bool → PackageParts → ℕ
package_cost true p = 11 + length p.bytes
package_cost false p = 60 + 2 * (length p.name + option_case p.version 0 (λ v. length (parts_text v)))

-- A registered package.
abbrev pub slot_cost : EncodeOptions → Slot → ℕ
slot_cost o s = option_case s.«package» 0 (package_cost o.define_components)

-- An export.
abbrev pub export_cost : Name × NodeId → ℕ
export_cost e = 21 + 2 * length e.0

-- The section that names the processor.
abbrev pub processor_cost : Processor → ℕ
processor_cost p = 48 + 2 * (length p.name.now + length p.version.now)

-- The whole: the preamble, 37 bytes for each unit that nodes pay for imports, and the parts.
abbrev pub graph_cost : Graph → EncodeOptions → ℕ
graph_cost g o =
    8 + 37 * sum_by (node_asks g) (finite.keys g.nodes) + sum_by (written_cost g o) (finite.keys g.nodes) + sum_by (slot_cost o) g.slots + sum_by export_cost g.exports
    + option_case o.processor 0 processor_cost

-- All that is written of a graph costs no more than its weight allows.
abbrev pub CostsFit : Type 0
CostsFit = (g : Graph) (o : EncodeOptions) → IsWellFormed g.types → IsSound g → graph_cost g o ≤ bound g o
