-- The names under which packages are imported. Only private functions use these definitions.
use Rattle.std.specs.Prelude.{Bool, if◌then◌else◌, List, [], ◌∷◌}
use Rattle.std.specs.List.{flat_map}
use Rattle.wac_types_shapes.specs.primitives.Name.{Name, option_case}
use Rattle.wac_edges.specs.declared.node.NodeId.{NodeId}
use Rattle.wac_graph_model.specs.declared.nodes.packages.PackageId.{PackageId}
use Rattle.wac_graph_model.specs.meaning.Means.{dependency_name, used_packages}
use Rattle.wac_graph_model.specs.nodes.Graph.{Graph, package_at}

-- The import name of a package, if it is registered.
abbrev pub package_name : Graph → PackageId → List Name
package_name g id = option_case (package_at g id) [] (λ p. dependency_name (p.name, p.version) ∷ [])

-- The import names of packages.
abbrev pub packages_names : Graph → List PackageId → List Name
packages_names g ids = flat_map (package_name g) ids

-- The names of the imported packages in order of first use, if packages are not defined.
abbrev pub package_names : Graph → (define_components : Bool) → List NodeId → List Name
package_names g define_components order = if define_components then [] else packages_names g (used_packages g order)
