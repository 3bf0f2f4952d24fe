-- The packages in use and their names, one node or one package more.
use Rattle.std.proofs.Common.{◌≡◌, ◌++◌, ◌+◌, ℕ, suc, List, [], ◌∷◌, take, Some, ap, ◌∙◌, sym, arith}
use Rattle.std.specs.Prelude.{slice_get}
use Rattle.std.proofs.lemmas.List.{append-nil}
use Rattle.std.proofs.lemmas.List.Concat.{flat_map-append}
use Rattle.std.proofs.lemmas.List.Elements.{filter-append}
use Rattle.wac_types_shapes.specs.primitives.Name.{Name}
use Rattle.wac_edges.specs.declared.node.NodeId.{NodeId}
use Rattle.wac_graph_model.specs.declared.nodes.packages.PackageId.{PackageId}
use Rattle.wac_graph_model.specs.meaning.Means.{is_instantiation, instantiations, node_is, used_after, used_packages}
use Rattle.wac_graph_model.specs.nodes.Graph.{Graph}
use Rattle.wac_graph_model.proofs.lemmas.meaning.WrittenLemmas.{used-append}
use Rattle.wac_graph_reader.proofs.lemmas.writing.WriteAliasLemmas.{take_at}
use Rattle.wac_graph_reader.specs.private.reading.PackageNames.{package_name, packages_names}

pub used_next : (g : Graph) (order : List NodeId) (i : ℕ) (n : NodeId) (old now : List PackageId) → slice_get order i ≡ Some n → old ≡ used_packages g (take i order) → now ≡ used_after g old (instantiations g (n ∷ [])) → now ≡ used_packages g (take (i + 1) order)
used_next g order i n old now at was added =
    let next : i + 1 ≡ suc i = omega arith in
    added ∙ ap (λ us. used_after g us (instantiations g (n ∷ []))) was ∙ sym (used-append g [] (instantiations g (take i order)) (instantiations g (n ∷ [])))
    ∙ sym (ap (λ k. used_packages g (take k order)) next ∙ ap (used_packages g) (take_at order i n at) ∙ ap (used_after g []) (filter-append (node_is g (λ x. is_instantiation x.kind)) (take i order) (n ∷ [])))

pub names_next : (g : Graph) (ids : List PackageId) (i : ℕ) (id : PackageId) (old now : List Name) → slice_get ids i ≡ Some id → old ≡ packages_names g (take i ids) → now ≡ old ++ package_name g id → now ≡ packages_names g (take (i + 1) ids)
names_next g ids i id old now at was added =
    let next : i + 1 ≡ suc i = omega arith in
    added ∙ ap (λ xs. xs ++ package_name g id) was
    ∙ sym (ap (λ k. packages_names g (take k ids)) next ∙ ap (packages_names g) (take_at ids i id at) ∙ flat_map-append (package_name g) (take i ids) (id ∷ []) ∙ ap (λ xs. packages_names g (take i ids) ++ xs) (append-nil (package_name g id)))
