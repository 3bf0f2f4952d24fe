-- The types that nodes need, and the first of them that has a fault.
use Rattle.std.specs.Prelude.{ℕ, ◌≡◌, ◌≤◌, Bool, if◌then◌else◌, List, [], ◌∷◌, ◌++◌, Option, Some, None, slice_get}
use Rattle.std.specs.List.{flat_map}
use Rattle.std.specs.FinMap as finite
use Rattle.wac_types_shapes.specs.primitives.Name.{option_case}
use Rattle.wac_types_shapes.specs.declared.shapes.component.ItemKind.TheVariants as kind
use Rattle.wac_types_collection.specs.collection.Bound.{Bindings}
use Rattle.wac_merge_classes.specs.entries.Binding.{root_bindings}
use Rattle.wac_merge_classes.specs.entries.Classes.{by_names}
use Rattle.wac_encode_faults.specs.declared.fault.WriteFault.{WriteFault}
use Rattle.wac_encode_faults.specs.declared.faults.Role.{Role}
use Rattle.wac_encode_faults.specs.declared.faults.Role.TheVariants as role
use Rattle.wac_encode_faults.specs.Faults.{HasFault, IsLowest}
use Rattle.wac_edges.specs.declared.node.NodeId.{NodeId}
use Rattle.wac_edges.specs.Edge.{node_number}
use Rattle.wac_graph_model.specs.nodes.Graph as graph
use Rattle.wac_graph_model.specs.nodes.Graph.{Graph, GraphNode, Kind, node_at, imports_of, package_of}
use Rattle.wac_graph_model.specs.nodes.Asked.{Entry, unsatisfied}
use Rattle.wac_graph_model.specs.nodes.Entries.{with_used, once}
use Rattle.wac_graph_model.specs.nodes.OuterImports.{outer_entries}

-- The root's bindings of the resources that classes of the graph's imports bind. Only whether a resource is bound decides
-- on faults, so here each class is imported at its own number.
abbrev pub class_bindings : Graph → Bindings
class_bindings g = root_bindings by_names g.types (outer_entries g) (λ k. k)

-- The component of an instantiated package, if packages are imported.
abbrev pub imported_package : Graph → (define_components : Bool) → ℕ → GraphNode → List Entry
imported_package g define_components n node =
    if define_components then [] else option_case (package_of g node) [] (λ p. record { name = []; kind = kind.Component p.world; node = n } ∷ [])

-- The types that a node needs: of an instantiation its unsatisfied imports in world order and the component of its package, if that is imported; of an
-- import and of a definition its type.
abbrev pub wanted_by_kind : Graph → (define_components : Bool) → ℕ → GraphNode → Kind → List Entry
wanted_by_kind g define_components n node graph.instantiation = unsatisfied g n 0 (imports_of g node) ++ imported_package g define_components n node
wanted_by_kind g define_components n node (graph.import name) = record { name = name; kind = node.item_kind; node = n } ∷ []
wanted_by_kind g define_components n node graph.definition = record { name = []; kind = node.item_kind; node = n } ∷ []
wanted_by_kind g define_components n node graph.alias = []

-- The types that a node needs, if it exists.
abbrev pub wanted_by : Graph → (define_components : Bool) → ℕ → Option GraphNode → List Entry
wanted_by g define_components n None = []
wanted_by g define_components n (Some node) = wanted_by_kind g define_components n node node.kind

-- The types that the node with this number needs.
abbrev pub wanted_at : Graph → (define_components : Bool) → ℕ → List Entry
wanted_at g define_components n = wanted_by g define_components n (node_at g (node_number n))

-- All types that nodes need, each after the interfaces that it uses widely, without repeated instances.
abbrev pub wanted_entries : Graph → (define_components : Bool) → List Entry
wanted_entries g define_components = once (flat_map (with_used g.types) (flat_map (wanted_at g define_components) (finite.keys g.nodes)))

-- Whether a type is defined or imported: a definition's type is defined, and all others are imported.
abbrev pub role_of_kind : Kind → Role
role_of_kind graph.definition = role.Defined
role_of_kind (graph.import name) = role.Imported
role_of_kind graph.instantiation = role.Imported
role_of_kind graph.alias = role.Imported

-- The role of the types that a node needs.
abbrev pub role_of : Option GraphNode → Role
role_of None = role.Imported
role_of (Some node) = role_of_kind node.kind

-- The type that is needed has this fault, under what the classes bind.
abbrev pub IsEntryFault : Graph → Entry → WriteFault → Type 0
IsEntryFault g e f = HasFault g.types (class_bindings g) (role_of (node_at g (node_number e.node))) e.kind f

-- The lowest fault of the first needed type that has one, and the node that needs the type.
pub record IsTypeFault (g : Graph) (define_components : Bool) (n : NodeId) (f : WriteFault) : Type 0 where
  pub position : ℕ
  pub entry : Entry
  pub there : slice_get (wanted_entries g define_components) position ≡ Some entry
  pub by_node : n.0 ≡ entry.node
  pub lowest : IsLowest (IsEntryFault g entry) (Some f)
  pub first : (i : ℕ) (e : Entry) (other : WriteFault) → slice_get (wanted_entries g define_components) i ≡ Some e → IsEntryFault g e other → position ≤ i

-- No needed type has a fault.
abbrev pub HasNoTypeFault : Graph → (define_components : Bool) → Type 0
HasNoTypeFault g define_components = (i : ℕ) (e : Entry) (f : WriteFault) → slice_get (wanted_entries g define_components) i ≡ Some e → IsEntryFault g e f → ⊥
