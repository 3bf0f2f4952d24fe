-- The names of imports during a removal. Only private functions use these definitions.
use Rattle.std.specs.Prelude.{◌≡◌, Bool, false, List, None, String, string_bytes, if◌then◌else◌}
use Rattle.std.specs.Global.{Global}
use Rattle.wac_types_shapes.specs.primitives.Name.{Name, same_name, find_name}
use Rattle.wac_edges.specs.declared.node.NodeId.{NodeId}
use Rattle.wac_graph_model.specs.declared.nodes.node.NodeKind.{NodeKind}
use Rattle.wac_graph_model.specs.declared.nodes.node.NodeKind.TheVariants as code
use Rattle.wac_graph_model.specs.nodes.Nodes.{names_of}

-- A node of this kind imports the name.
abbrev pub imports : NodeKind → Name → Bool
imports (code.Import name) other = same_name other (string_bytes name)
imports code.Definition other = false
imports (code.Instantiation _) other = false
imports code.Alias other = false

-- The name that the removed node imports is free, and every other name has the same node as before.
abbrev pub AreLeft : NodeKind → List (String Global × NodeId) → List (String Global × NodeId) → Type 0
AreLeft k old new = (other : Name) → find_name (names_of new) other ≡ (if imports k other then None else find_name (names_of old) other)
