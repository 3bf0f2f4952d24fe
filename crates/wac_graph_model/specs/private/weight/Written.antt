-- What is written of a graph after its imports, by the lists that are written. Proofs alone cite this.
use Rattle.std.specs.Prelude.{ℕ, suc, ◌+◌, ◌*◌, ◌≡◌, ◌≤◌, ◌==◌, ◌&&◌, Bool, false, if◌then◌else◌, List, [], ◌∷◌, ◌++◌, length, Some}
use Rattle.std.specs.List.{list_any, sum_by}
use Rattle.std.specs.FinMap as finite
use Rattle.wac_types_shapes.specs.primitives.Name.{Name, option_case}
use Rattle.wac_types_collection.specs.collection.Collection.{IsWellFormed}
use Rattle.wac_types_collection.specs.collection.Package.{PackageParts}
use Rattle.wac_binary.specs.declared.sorts.Sort.{Sort}
use Rattle.wac_binary.specs.Customs.{of_sort, sorts_in_order}
use Rattle.wac_edges.specs.Edge.{node_number}
use Rattle.wac_edges.specs.Order.{Writes}
use Rattle.wac_edges.specs.declared.node.NodeId.{NodeId}
use Rattle.wac_graph_model.specs.declared.nodes.options.EncodeOptions.{EncodeOptions}
use Rattle.wac_graph_model.specs.declared.nodes.packages.PackageId.{PackageId}
use Rattle.wac_graph_model.specs.declared.nodes.packages.Slot.{Slot}
use Rattle.wac_graph_model.specs.nodes.Graph.{Graph, GraphNode, node_at, package_at}
use Rattle.wac_graph_model.specs.nodes.OuterImports.{outer_entries}
use Rattle.wac_graph_model.specs.nodes.Sound.{IsSound}
use Rattle.wac_graph_model.specs.meaning.Means.{is_written, same_package, further_exports, AreNames}
use Rattle.wac_graph_model.specs.weight.GraphWeight.{kind_weight, bound}
use Rattle.wac_graph_model.specs.private.weight.AskedWeight.{entries_weight}
use Rattle.wac_graph_model.specs.private.weight.Costs.{node_cost, name_cost, package_cost, slot_cost, export_cost, processor_cost}

-- The export of a definition under its first name.
abbrev pub first_cost : GraphNode → ℕ
first_cost node = option_case node.first_name 0 (λ name. 21 + 2 * length name)

-- A node that is written, and the export of a definition.
abbrev pub item_cost : Graph → EncodeOptions → NodeId → ℕ
item_cost g o n = option_case (node_at g n) 0 (λ node. node_cost g o n.0 node node.kind + first_cost node)

-- The elements of a list with their places, of which the first is n.
abbrev pub numbered : {A : Type 0} → ℕ → List A → List (ℕ × A)
numbered n [] = []
numbered n (x ∷ xs) = (n, x) ∷ numbered (suc n) xs

-- The package in the slot is one of these, which are listed with their components.
abbrev pub is_written_slot : List (PackageId × ℕ) → ℕ × Slot → Bool
is_written_slot components p = list_any (λ e. (e.0.slot == p.0) && (p.1.generation == e.0.generation)) components

-- The registered packages that are written.
abbrev pub components_cost : Graph → EncodeOptions → List (PackageId × ℕ) → ℕ
components_cost g o components = sum_by (λ p. if is_written_slot components p then slot_cost o p.1 else 0) (numbered 0 g.slots)

-- All registered packages.
abbrev pub slots_cost : Graph → EncodeOptions → ℕ
slots_cost g o = sum_by (slot_cost o) g.slots

-- The names of all nodes.
abbrev pub names_cost : Graph → ℕ
names_cost g = sum_by (λ n. option_case (node_at g (node_number n)) 0 name_cost) (finite.keys g.nodes)

-- All that follows the imports: the nodes of this order, the packages, the further exports, the names and the processor.
abbrev pub order_cost : Graph → EncodeOptions → List NodeId → ℕ
order_cost g o order = sum_by (item_cost g o) order + slots_cost g o + sum_by export_cost (further_exports g) + names_cost g + option_case o.processor 0 processor_cost

-- The imports with 37 bytes for each unit of their weight, and all that follows them, are no more than is allowed.
abbrev pub OrderFits : Type 0
OrderFits = (g : Graph) (o : EncodeOptions) (order : List NodeId) → IsWellFormed g.types → IsSound g → Writes g.edges (is_written g) order
    → 8 + 37 * entries_weight g.types (outer_entries g) + order_cost g o order ≤ bound g o

-- What a node stands for is a part of what is allowed.
abbrev pub NodeIsPart : Type 0
NodeIsPart = (g : Graph) (o : EncodeOptions) (n : NodeId) (node : GraphNode) → node_at g n ≡ Some node → 64 * kind_weight g n.0 node node.kind ≤ bound g o

-- The packages that are written are registered ones. One more is paid by its slot.
abbrev pub ComponentsArePart : Type 0
ComponentsArePart = (g : Graph) (o : EncodeOptions) (components : List (PackageId × ℕ)) → components_cost g o components ≤ slots_cost g o

abbrev pub ComponentIsPaid : Type 0
ComponentIsPaid = (g : Graph) (o : EncodeOptions) (components : List (PackageId × ℕ)) (id : PackageId) (c : ℕ) (p : PackageParts) → package_at g id ≡ Some p → list_any (λ e. same_package id e.0) components ≡ false
    → components_cost g o components + package_cost o.define_components p ≤ components_cost g o (components ++ (id, c) ∷ [])

-- Named indexes: 41 bytes for each, and its name twice.
abbrev pub indexes_cost : List (Sort × ℕ × Name) → ℕ
indexes_cost names = sum_by (λ t. sum_by (λ e. 41 + 2 * length e.1) (of_sort t names)) sorts_in_order

-- The names of indexes are names of nodes.
abbrev pub NamesArePart : Type 0
NamesArePart = (g : Graph) (index : NodeId → ℕ) (names : List (Sort × ℕ × Name)) → AreNames g index names → indexes_cost names ≤ names_cost g
