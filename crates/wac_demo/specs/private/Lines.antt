-- The lines for matches that are passed over.
use Rattle.std.specs.Prelude.{ℕ, List, [], ◌∷◌, ◌++◌, codes}
use Rattle.wac_types_shapes.specs.primitives.Name.{Name, option_case}
use Rattle.wac_graph_model.specs.declared.nodes.packages.PackageId.{PackageId}
use Rattle.wac_graph_model.specs.nodes.Graph.{Graph, package_at}
use Rattle.wac_graph.specs.plugs.Matching.{Match}
use Rattle.wac_graph.specs.plugs.Precedence.{PlugMatch}

-- The name of a package.
abbrev pub package_name : Graph → PackageId → Name
package_name g id = option_case (package_at g id) [] (λ p. p.name)

-- The line for a match of a plug with this name.
abbrev pub match_line : Name → Match → List ℕ
match_line plug m = codes "passed over: " ++ (plug ++ (codes " " ++ (m.export ++ (codes " " ++ (m.import ++ codes "\n")))))

-- The lines for matches, in order.
abbrev pub lines_of : Graph → List PlugMatch → List ℕ
lines_of g [] = []
lines_of g (o ∷ os) = match_line (package_name g o.plug) o.match ++ lines_of g os
