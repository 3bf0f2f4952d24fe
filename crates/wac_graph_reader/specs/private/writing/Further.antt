-- The exports that are not definitions' first names. Only private functions use these definitions.
use Rattle.std.specs.Prelude.{ℕ, List, [], ◌∷◌, slice_get}
use Rattle.std.specs.List.{filter}
use Rattle.wac_types_shapes.specs.primitives.Name.{Name, option_case}
use Rattle.wac_edges.specs.declared.node.NodeId.{NodeId}
use Rattle.wac_graph_model.specs.nodes.Graph.{Graph}
use Rattle.wac_graph_model.specs.meaning.Means.{is_further}

-- The entries of the list that are not definitions' first export names.
abbrev pub further_of : Graph → List (Name × NodeId) → List (Name × NodeId)
further_of g es = filter (is_further g) es

-- The export at a position, if it is not a definition's first export name.
abbrev pub further_at : Graph → ℕ → List (Name × NodeId)
further_at g i = further_of g (option_case (slice_get g.exports i) [] (λ e. e ∷ []))
