-- The definitions among stored nodes, and the dependency edges of a new one.
use Rattle.std.specs.Prelude.{◌≡◌, ◌⊎◌, ℕ, true, IsSomeAnd}
use Rattle.std.specs.Option.{option_map}
use Rattle.slab.specs.Slab.{Slab, get}
use Rattle.wac_types_shapes.specs.declared.shapes.component.«Type».{«Type» as AnyType}
use Rattle.wac_types_shapes.specs.declared.shapes.component.ItemKind.TheVariants.{TypeItem}
use Rattle.wac_types_collection.specs.collection.Collection.{Collection, holds_type}
use Rattle.wac_types_collection.specs.reach.Reach.{Reaches}
use Rattle.wac_edges.specs.declared.edges.Edge.{Edge}
use Rattle.wac_edges.specs.declared.node.NodeId.{NodeId}
use Rattle.wac_edges.specs.Edge.{node_number}
use Rattle.wac_graph_model.specs.declared.nodes.node.Node.{Node}
use Rattle.wac_graph_model.specs.nodes.Graph.{definition}
use Rattle.wac_graph_model.specs.nodes.Nodes.{node_of}
use Rattle.wac_graph_model.specs.nodes.Definitions.{IsDefinedValue, dependency_edge}

-- The stored node with this number defines the type.
abbrev pub DefinesAt : Slab Node → AnyType → ℕ → Type 0
DefinesAt nodes t q = IsSomeAnd (option_map node_of (get nodes q)) (λ x. (x.kind ≡ definition) × (x.item_kind ≡ TypeItem t))

-- Each defined type is of the collection.
abbrev pub AreHeld : Collection → Slab Node → Type 0
AreHeld c nodes = (q : ℕ) (t : AnyType) → DefinesAt nodes t q → holds_type c t ≡ true

-- A dependency edge between the definitions n of t and m of u, from the reached type to the one that reaches it.
--
-- Only a defined value type counts as reached.
abbrev pub IsBetween : Collection → AnyType → NodeId → AnyType → NodeId → Edge → Type 0
IsBetween c t n u m e =
    ((IsDefinedValue u × Reaches c t u) × (e ≡ dependency_edge m n)) ⊎ ((IsDefinedValue t × Reaches c u t) × (e ≡ dependency_edge n m))

-- The edge is a dependency edge of a new definition n of type t.
abbrev pub Brings : Collection → Slab Node → AnyType → NodeId → Edge → Type 0
Brings c nodes t n e = (q : ℕ) × (u : AnyType) × DefinesAt nodes u q × IsBetween c t n u (node_number q) e
