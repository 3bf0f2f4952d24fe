-- A type definition of a graph: its node and its dependency edges.
use Rattle.std.specs.Prelude.{◌≡◌, ◌↔◌, ◌⊎◌, true, None, Some}
use Rattle.std.specs.FinSet as set
use Rattle.wac_types_shapes.specs.primitives.Name.{Name}
use Rattle.wac_types_shapes.specs.declared.shapes.component.«Type».{«Type» as AnyType}
use Rattle.wac_types_shapes.specs.declared.shapes.component.«Type».TheVariants as ty
use Rattle.wac_types_shapes.specs.declared.shapes.component.ValueType.TheVariants as val
use Rattle.wac_types_shapes.specs.declared.shapes.component.ItemKind.TheVariants.{TypeItem}
use Rattle.wac_types_collection.specs.reach.Reach.{Reaches}
use Rattle.wac_edges.specs.declared.edges.Edge.{Edge}
use Rattle.wac_edges.specs.declared.edges.Label.TheVariants.{Dependency}
use Rattle.wac_edges.specs.declared.node.NodeId.{NodeId}
use Rattle.wac_edges.specs.Order.{Edges}
use Rattle.wac_graph_model.specs.nodes.Graph.{Graph, GraphNode, definition, IsDefinitionOf}

-- The node that defines the type and is exported under the name.
abbrev pub definition_node : Name → AnyType → GraphNode
definition_node name t = record { kind = definition; item_kind = TypeItem t; owner = None; name = None; export_name = Some name; first_name = Some name }

-- No node defines the type.
abbrev pub IsUndefined : Graph → AnyType → Type 0
IsUndefined g t = (n : NodeId) → IsDefinitionOf g (TypeItem t) n → ⊥

-- The type is a resource.
abbrev pub IsResource : AnyType → Type 0
IsResource (ty.Resource _) = Unit {0}
IsResource _ = ⊥

-- The type is a defined value type of the collection, and not a primitive type or a handle.
abbrev pub IsDefinedValue : AnyType → Type 0
IsDefinedValue (ty.Value (val.Defined _)) = Unit {0}
IsDefinedValue _ = ⊥

-- The edge from a definition to one that depends on it.
abbrev pub dependency_edge : NodeId → NodeId → Edge
dependency_edge source target = record { source = source; target = target; label = Dependency }

-- An edge that a new definition of the type adds.
pub data IsDependency (g : Graph) (t : AnyType) (n : NodeId) (e : Edge) : Type 0 where
  -- From the definition of each defined value type that the new type reaches.
  reached : (m : NodeId) (u : AnyType) → IsDefinitionOf g (TypeItem u) m → IsDefinedValue u → Reaches g.types t u → e ≡ dependency_edge m n → IsDependency g t n e
  -- To the definition of each type that reaches the new type, if the new type is a defined value type.
  reaching : (m : NodeId) (u : AnyType) → IsDefinitionOf g (TypeItem u) m → IsDefinedValue t → Reaches g.types u t → e ≡ dependency_edge n m → IsDependency g t n e

-- The edges are those of the graph and those that the new definition adds.
abbrev pub WithDependencies : Graph → AnyType → NodeId → Edges → Type 0
WithDependencies g t n edges = (e : Edge) → (set.contains edges e ≡ true) ↔ (IsDependency g t n e ⊎ (set.contains g.edges e ≡ true))
