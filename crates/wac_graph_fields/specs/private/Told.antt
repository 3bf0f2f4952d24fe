-- Exports that are found through their nodes.
use Rattle.std.specs.Prelude.{Bool, false, ◌||◌, Option, Some, None}
use Rattle.wac_types_shapes.specs.primitives.Name.{Name, same_name}
use Rattle.wac_graph_model.specs.nodes.Graph.{GraphNode}

-- The name, if any, is this one.
abbrev pub is_name : Option Name → Name → Bool
is_name None other = false
is_name (Some name) other = same_name other name

-- The node leads to the export of this name: it is its latest export name, or the node may have several.
abbrev pub tells : Bool → Option GraphNode → Name → Bool
tells again None name = false
tells again (Some n) name = again || is_name n.export_name name
