-- The names of the imports and exports of the composed component, and their first fault.
use Rattle.std.specs.Prelude.{◌≡◌, List, [], ◌∷◌, ◌++◌, map}
use Rattle.std.specs.List.{flat_map}
use Rattle.wac_types_shapes.specs.primitives.Name.{Name, option_case}
use Rattle.wac_types_shapes.specs.primitives.Tree.{Tree}
use Rattle.wac_binary.specs.Items.{Item}
use Rattle.wac_binary.specs.Meaning.{meaning}
use Rattle.wac_edges.specs.declared.node.NodeId.{NodeId}
use Rattle.wac_edges.specs.Order.{Writes}
use Rattle.wac_graph_model.specs.declared.nodes.options.EncodeOptions.{EncodeOptions}
use Rattle.wac_graph_model.specs.nodes.Graph.{Graph, node_at}
use Rattle.wac_graph_model.specs.nodes.OuterImports.{AreOuterImports}
use Rattle.wac_graph_model.specs.meaning.Means.{is_written, package_imports, further_exports}
use Rattle.wac_names.specs.validation.FirstFault.{Fault, IsFirstFault}

-- The first export name of a definition.
abbrev pub first_name_of : Graph → NodeId → List Name
first_name_of g n = option_case (node_at g n) [] (λ node. option_case node.first_name [] (λ name. name ∷ []))

-- The names of the exports: definitions' first names in written order, then the others in the graph's order.
abbrev pub written_exports : Graph → List NodeId → List Name
written_exports g order = flat_map (first_name_of g) order ++ map (λ e. e.0) (further_exports g)

-- The names are those of the component's imports and exports, in written order.
pub record AreOuterNames (g : Graph) (o : EncodeOptions) (imports exports : List Name) : Type 0 where
  -- The written nodes in order: each is the lowest one whose edge sources are all written or imports.
  pub order : List NodeId
  pub in_order : Writes g.edges (is_written g) order
  -- The imports are the merged classes under their canonical names, followed by the packages that are not defined.
  pub classes : List (Name × Tree)
  pub outer : AreOuterImports g classes
  pub imported : imports ≡ map (λ e. e.0) (classes ++ package_imports g o order)
  pub exported : exports ≡ written_exports g order

-- The names of the items' imports, in order.
abbrev pub import_names : List Item → List Name
import_names items = map (λ e. e.0) (meaning items).imports

-- The names of the items' exports, in order.
abbrev pub export_names : List Item → List Name
export_names items = map (λ e. e.name) (meaning items).exports

-- The first fault of the names of the component's imports and exports.
pub record IsOuterFault (g : Graph) (o : EncodeOptions) (f : Fault) : Type 0 where
  pub imports : List Name
  pub exports : List Name
  pub named : AreOuterNames g o imports exports
  pub first : IsFirstFault imports exports f
