-- Stored nodes of a package. Only private functions use this definition.
use Rattle.std.specs.Prelude.{ℕ, Bool}
use Rattle.std.specs.Option.{option_map}
use Rattle.slab.specs.Slab.{Slab, get}
use Rattle.wac_graph_model.specs.declared.nodes.node.Node.{Node}
use Rattle.wac_graph_model.specs.declared.nodes.packages.PackageId.{PackageId}
use Rattle.wac_graph_model.specs.nodes.Nodes.{node_of}
use Rattle.wac_graph_fields.specs.Unregistering.{is_of}

-- The stored node with this number is one of the package.
abbrev pub is_of_at : PackageId → Slab Node → ℕ → Bool
is_of_at id nodes q = is_of id (option_map node_of (get nodes q))
