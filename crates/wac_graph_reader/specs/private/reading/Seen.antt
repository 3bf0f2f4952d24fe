-- What the pass over all nodes finds before they are written.
use Rattle.std.specs.Prelude.{ℕ, Bool, true, false, List, [], ◌∷◌}
use Rattle.std.specs.List.{flat_map}
use Rattle.std.specs.FinMap as finite
use Rattle.wac_graph_model.specs.nodes.Asked.{Entry, asked_by}
use Rattle.wac_graph_model.specs.nodes.Graph.{Graph, Kind, definition, node_at}

-- The kind is a definition.
abbrev pub is_definition : Kind → Bool
is_definition definition = true
is_definition _ = false

-- The number n, if there is any import.
abbrev pub number_where_any : ℕ → List Entry → List ℕ
number_where_any n [] = []
number_where_any n (e ∷ es) = n ∷ []

-- The number, if its node is an instantiation with an unsatisfied import.
abbrev pub open_at : Graph → ℕ → List ℕ
open_at g n = number_where_any n (asked_by g n (node_at g (record { 0 = n })))

-- The numbers of all instantiations with an unsatisfied import, in order.
abbrev pub open_numbers : Graph → List ℕ
open_numbers g = flat_map (open_at g) (finite.keys g.nodes)
