use Rattle.std.proofs.Common.{◌≡◌, ◌∙◌, ◌≤◌, List, length, subst, sym, vec_capacity}
use Rattle.std.proofs.lemmas.List.Elements.{same_from_all_zip}
use Rattle.wac_graph_model.specs.declared.nodes.packages.Slot.{Slot}
use Rattle.wac_graph_fields.specs.private.Fields.{Fields}
use Rattle.wac_graph_fields.proofs.CloneLemmas.{same_graph, same_marks, same_keys, same_names, invariant_clone}
use Rattle.wac_graph.specs.private.Inside.{fields_of}
use Rattle.wac_graph.proofs.graph.CompositionGraph.clone.Goals as goal

pub invariant_of-result : goal.invariant_of-result
invariant_of-result c =
    let copy : Fields = record { types = c.in_ok-types.types; nodes = c.in_ok-types.nodes; edges = c.in_ok-types.edges; imports = c.in_ok-imports.imports; exports = c.in_ok-imports.exports; package_map = c.in_ok-imports.package_map; slots = c.in_ok-slots.slots; vacant = c.in_ok-slots.vacant; lost = c.in_ok-lost.lost } in
    let slots : c.in_ok-slots.slots.items ≡ c.self.inside.slots.items = same_from_all_zip (λ a b. b ≡ a) c.self.inside.slots.items c.in_ok-slots.slots.items c.in_ok-slots.ensures.slots (λ x y r. r) in
    invariant_clone (fields_of c.self.inside) copy c.self.invariant
    (same_graph (fields_of c.self.inside) copy c.in_ok-types.ensures.types c.in_ok-types.ensures.nodes c.in_ok-types.ensures.next c.in_ok-types.ensures.edges c.in_ok-imports.ensures.exports slots c.in_ok-slots.ensures.vacant)
    (same_marks c.self.inside.nodes.slots c.in_ok-types.nodes.slots c.in_ok-types.ensures.nodes) (same_keys c.self.inside.package_map.entries c.in_ok-imports.package_map.entries c.in_ok-imports.ensures.keys)
    (same_names c.self.inside.imports.entries c.in_ok-imports.imports.entries c.in_ok-imports.ensures.imports) c.in_ok-lost.ensures
    (subst (λ (xs : List Slot). length xs ≤ vec_capacity c.in_ok-slots.vacant) (sym slots) c.in_ok-slots.ensures.room)

pub returns : goal.returns
returns c =
    let copy : Fields = record { types = c.in_ok-types.types; nodes = c.in_ok-types.nodes; edges = c.in_ok-types.edges; imports = c.in_ok-imports.imports; exports = c.in_ok-imports.exports; package_map = c.in_ok-imports.package_map; slots = c.in_ok-slots.slots; vacant = c.in_ok-slots.vacant; lost = c.in_ok-lost.lost } in
    same_graph (fields_of c.self.inside) copy c.in_ok-types.ensures.types c.in_ok-types.ensures.nodes c.in_ok-types.ensures.next c.in_ok-types.ensures.edges c.in_ok-imports.ensures.exports
    (same_from_all_zip (λ a b. b ≡ a) c.self.inside.slots.items c.in_ok-slots.slots.items c.in_ok-slots.ensures.slots (λ x y r. r)) c.in_ok-slots.ensures.vacant ∙ c.self.view_is
