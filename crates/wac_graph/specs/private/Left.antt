-- The rests of iterators over nodes, packages and arguments. Only private functions use these definitions.
use Rattle.std.specs.Prelude.{ℕ, suc, List, [], ◌∷◌, ◌++◌, drop, find, Option, Some, None}
use Rattle.std.specs.Option.{option_map}
use Rattle.std.specs.FinSet as set
use Rattle.std.specs.Borrow.{Bor}
use Rattle.wac_types_shapes.specs.primitives.Name.{Name}
use Rattle.wac_types_collection.specs.collection.Package.{PackageParts}
use Rattle.wac_types_shapes.specs.declared.shapes.component.ItemKind.{ItemKind}
use Rattle.wac_graph_model.specs.declared.nodes.node.Node.{Node}
use Rattle.wac_edges.specs.declared.node.NodeId.{NodeId}
use Rattle.wac_graph_model.specs.declared.nodes.packages.PackageId.{PackageId}
use Rattle.wac_graph_model.specs.declared.nodes.packages.Slot.{Slot}
use Rattle.wac_edges.specs.Edge.{node_number}
use Rattle.wac_graph_model.specs.nodes.Graph.{Graph}
use Rattle.wac_graph_model.specs.nodes.Asked.{is_argument}
use Rattle.wac_graph.specs.Listed.{held_from}

-- The id and node of an entry.
abbrev pub with_id : ℕ × Node → NodeId × Node
with_id e = (node_number e.0, e.1)

-- The id of an entry.
abbrev pub id_of : ℕ × Node → NodeId
id_of e = node_number e.0

-- The registered packages in the slots from this number on.
abbrev pub packages_left : List Slot → ℕ → List (PackageId × PackageParts)
packages_left slots i = held_from i (drop i slots)

-- The argument for the import at a position.
abbrev pub argument_at : Graph → NodeId → ℕ → Option NodeId
argument_at g id i = option_map (λ e. e.source) (find (is_argument id.0 i) (set.items g.edges))

-- The name of the import with its argument, if it has one.
abbrev pub set_row : Name × ItemKind → Option NodeId → List (Name × NodeId)
set_row e None = []
set_row e (Some node) = (e.0, node) ∷ []

-- The names of the imports, numbered from i on, with their arguments.
abbrev pub set_rows : Graph → NodeId → ℕ → List (Name × ItemKind) → List (Name × NodeId)
set_rows g id i [] = []
set_rows g id i (e ∷ imports) = set_row e (argument_at g id i) ++ set_rows g id (suc i) imports

-- The names of the imports from position i on with their arguments.
abbrev pub set_from : Graph → NodeId → List (Name × ItemKind) → ℕ → List (Name × NodeId)
set_from g id imports i = set_rows g id i (drop i imports)

-- The borrowed list, or an empty one.
abbrev pub listed_in : {A : Type 0} → Option (Bor (List A)) → List A
listed_in None = []
listed_in (Some xs) = xs.now

-- The remaining arguments, if the node is an instantiation.
abbrev pub arguments_left : Graph → NodeId → Option (Bor (List (Name × ItemKind))) → ℕ → List (Name × NodeId)
arguments_left g id None i = []
arguments_left g id (Some imports) i = set_from g id imports.now i
