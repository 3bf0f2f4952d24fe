-- What the imports of a graph weigh together, and what each node pays for those that it needs. Proofs alone cite this.
use Rattle.std.specs.Prelude.{ℕ, ◌+◌, ◌≤◌, if◌then◌else◌, List, length, map}
use Rattle.std.specs.List.{sum_by}
use Rattle.std.specs.FinMap as finite
use Rattle.wac_types_shapes.specs.primitives.Name.{option_case}
use Rattle.wac_types_shapes.specs.shapes.Kinds.{kind_type}
use Rattle.wac_types_shapes.specs.declared.shapes.component.«Type».{«Type» as AnyType}
use Rattle.wac_types_collection.specs.collection.Collection.{Collection, IsWellFormed}
use Rattle.wac_types_weight.specs.Weight.{near_all}
use Rattle.wac_types_weight.specs.Text.{own_texts, entry_weight, bare_weight}
use Rattle.wac_edges.specs.Edge.{node_number}
use Rattle.wac_merge_classes.specs.entries.Classes.{Entry, is_instance}
use Rattle.wac_graph_model.specs.nodes.Graph.{Graph, GraphNode, Kind, definition, import, instantiation, alias, node_at}
use Rattle.wac_graph_model.specs.nodes.OuterImports.{outer_entries}
use Rattle.wac_graph_model.specs.nodes.Sound.{IsSound}
use Rattle.wac_graph_model.specs.weight.GraphWeight.{kind_weight}

-- An import: the bytes of its name, and 1 if it is no instance. An instance has 1 in its interface.
abbrev pub name_weight : Entry → ℕ
name_weight e = (if is_instance e.kind then 0 else 1) + length e.name

-- The types of imports.
abbrev pub types_of : List Entry → List AnyType
types_of es = map (λ e. kind_type e.kind) es

-- The weight of imports: their names, the items of interfaces and worlds, what is inside these, and what is near all
-- imports together, each once.
abbrev pub entries_weight : Collection → List Entry → ℕ
entries_weight c es = sum_by name_weight es + sum_by (entry_weight c) (types_of es) + sum_by (bare_weight c) (types_of es) + own_texts c (near_all c (types_of es))

-- What a node pays for the imports that it needs: an import by its name and its item, an instantiation by its world.
abbrev pub asks_weight : Graph → ℕ → GraphNode → Kind → ℕ
asks_weight g n node definition = 0
asks_weight g n node (import name) = 1 + kind_weight g n node (import name)
asks_weight g n node instantiation = kind_weight g n node instantiation
asks_weight g n node alias = 0

-- The same of the node with this number.
abbrev pub node_asks : Graph → ℕ → ℕ
node_asks g n = option_case (node_at g (node_number n)) 0 (λ node. asks_weight g n node node.kind)

-- The imports of a graph weigh no more than its nodes pay for them.
abbrev pub AskedIsPaid : Type 0
AskedIsPaid = (g : Graph) → IsWellFormed g.types → IsSound g → entries_weight g.types (outer_entries g) ≤ sum_by (node_asks g) (finite.keys g.nodes)
