-- The weight of a graph under options: `encode` writes at most 64 bytes for each unit of it.
use Rattle.std.specs.Prelude.{ℕ, ◌+◌, ◌*◌, ◌==◌, if◌then◌else◌, length, slice_get}
use Rattle.std.specs.List.{sum_by}
use Rattle.std.specs.FinMap as finite
use Rattle.std.specs.FinSet as set
use Rattle.semver.specs.Identifiers.{parts_text}
use Rattle.wac_types_shapes.specs.primitives.Name.{option_case}
use Rattle.wac_types_shapes.specs.declared.shapes.component.«Type».TheVariants as ty
use Rattle.wac_types_weight.specs.Weight.{named_parts, optional_text, weight, item_weight}
use Rattle.wac_edges.specs.declared.edges.Edge.{Edge}
use Rattle.wac_edges.specs.declared.edges.Label.{Label}
use Rattle.wac_edges.specs.declared.edges.Label.TheVariants.{Alias}
use Rattle.wac_edges.specs.declared.node.NodeId.{NodeId}
use Rattle.wac_edges.specs.Edge.{node_number}
use Rattle.wac_graph_model.specs.declared.nodes.options.EncodeOptions.{EncodeOptions}
use Rattle.wac_graph_model.specs.declared.nodes.packages.Slot.{Slot}
use Rattle.wac_graph_model.specs.nodes.Graph.{Graph, GraphNode, Kind, definition, import, instantiation, alias, node_at, exports_of, package_of}

-- The bytes of the name of an instance's export at this position.
abbrev pub export_text : Graph → NodeId → ℕ → ℕ
export_text g instance position = option_case (node_at g instance) 0 (λ node. option_case (slice_get (exports_of g node) position) 0 (λ e. length e.0))

-- The bytes of the name of the export that an edge makes node n an alias of. Of any other edge 0.
abbrev pub alias_text : Graph → ℕ → Edge → Label → ℕ
alias_text g n e (Alias position) = if e.target.0 == n then export_text g e.source position else 0
alias_text g n e label = 0

-- The weight of what a node stands for: of its item, and of an import its name too; of an instantiation the world of its
-- package; of an alias only the name of its export.
abbrev pub kind_weight : Graph → ℕ → GraphNode → Kind → ℕ
kind_weight g n node definition = item_weight g.types node.item_kind
kind_weight g n node (import name) = length name + item_weight g.types node.item_kind
kind_weight g n node instantiation = option_case (package_of g node) 0 (λ p. weight g.types (ty.World p.world))
kind_weight g n node alias = sum_by (λ e. alias_text g n e e.label) (set.items g.edges)

-- The weight of a node: 2, the bytes of its name, and what it stands for.
abbrev pub node_weight : Graph → ℕ → ℕ
node_weight g n = option_case (node_at g (node_number n)) 0 (λ node. 2 + optional_text node.name + kind_weight g n node node.kind)

-- The weight of a registered package: 1, and the bytes of its name, of its version's text and of its component.
abbrev pub slot_weight : Slot → ℕ
slot_weight s = option_case s.«package» 0 (λ p. 1 + length p.name + option_case p.version 0 (λ v. length (parts_text v)) + length p.bytes)

-- The weight of a graph under options: 1, its nodes, 1 for each edge, its exports with their names, its packages, and the
-- bytes of the processor's texts.
abbrev pub graph_weight : Graph → EncodeOptions → ℕ
graph_weight g o =
    1 + sum_by (node_weight g) (finite.keys g.nodes) + length (set.items g.edges) + named_parts g.exports + sum_by slot_weight g.slots
    + option_case o.processor 0 (λ p. length p.name.now + length p.version.now)

-- The most bytes that are written: 64 for each unit of the weight.
abbrev pub bound : Graph → EncodeOptions → ℕ
bound g o = 64 * graph_weight g o
