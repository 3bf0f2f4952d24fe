-- The fields of a clone mean the same graph.
use Rattle.std.proofs.Common.{◌≡◌, ℕ, zero, suc, ◌+◌, List, [], ◌∷◌, length, reverse, map, get_or, ◌≤◌, refl, ap, subst, ◌∙◌, sym, Option, Some, None, string_bytes}
use Rattle.std.specs.Prelude.{String}
use Rattle.std.specs.Global.{Global}
use Rattle.std.specs.List.{AllZip}
use Rattle.std.specs.FinMap as finite
use Rattle.std.specs.FinSet as set
use Rattle.std.proofs.lemmas.List.Elements.{same_from_all_zip}
use Rattle.slab.specs.Slab.{get, entries_from, IsSlotClone}
use Rattle.wac_types_shapes.specs.primitives.Name.{find_name}
use Rattle.wac_types_shapes.specs.keys.Key.{Key}
use Rattle.wac_edges.specs.Edge.{argument_edge}
use Rattle.wac_edges.specs.declared.node.NodeId.{NodeId}
use Rattle.wac_graph_model.specs.declared.nodes.node.Node.{Node}
use Rattle.wac_graph_model.specs.declared.nodes.packages.PackageId.{PackageId}
use Rattle.wac_graph_model.specs.nodes.Graph.{Graph, GraphNode, node_at, IsImportOf}
use Rattle.wac_graph_model.proofs.lemmas.nodes.NodeLemmas.{get-nodes_of}
use Rattle.wac_graph_fields.specs.private.Told.{tells}
use Rattle.wac_graph_fields.specs.private.Lost.{is_again}
use Rattle.std.specs.Option.{option_map}
use Rattle.std.specs.Prelude.{slice_get, vec_capacity}
use Rattle.wac_graph_model.specs.nodes.Nodes.{node_of, nodes_of, names_of, satisfied_at}
use Rattle.wac_graph_model.specs.nodes.Clones.{IsNodeClone}
use Rattle.wac_graph_model.specs.nodes.Sound.{IsSound}
use Rattle.wac_graph_fields.specs.private.Slots.{AreKeyed}
use Rattle.wac_graph_fields.specs.private.Fields.{Fields, graph_of, Invariant}

abbrev AreClones : List (Option Node) → List (Option Node) → Type 0
AreClones xs ys = AllZip (IsSlotClone IsNodeClone) xs ys

abbrev seen : ℕ × Node → ℕ × GraphNode
seen e = (e.0, node_of e.1)

same_entries : (j : ℕ) (xs ys : List (Option Node)) → AreClones xs ys → map seen (entries_from j ys) ≡ map seen (entries_from j xs)
same_entries j [] [] all = refl
same_entries j [] (y ∷ ys) all = absurd all
same_entries j (x ∷ xs) [] all = absurd all
same_entries j (None ∷ xs) (None ∷ ys) all = same_entries (j + 1) xs ys all.1
same_entries j (None ∷ xs) (Some y ∷ ys) all = let h : Some y ≡ None = all.0 in cc
same_entries j (Some x ∷ xs) (None ∷ ys) all = absurd all.0
same_entries j (Some x ∷ xs) (Some y ∷ ys) all = λ d. (j, all.0.same d) ∷ same_entries (j + 1) xs ys all.1 d

same_slot : (x y : Option Node) (i : ℕ) → IsSlotClone IsNodeClone x y → satisfied_at y i ≡ satisfied_at x i
same_slot None None i h = refl
same_slot None (Some y) i h = cc
same_slot (Some x) None i h = absurd h
same_slot (Some x) (Some y) i h = h.marks i

-- the same positions are satisfied
pub same_marks : (xs ys : List (Option Node)) → AreClones xs ys → (q i : ℕ) → satisfied_at (get_or ys q None) i ≡ satisfied_at (get_or xs q None) i
same_marks [] [] all q i = refl
same_marks [] (y ∷ ys) all q i = absurd all
same_marks (x ∷ xs) [] all q i = absurd all
same_marks (x ∷ xs) (y ∷ ys) all zero i = same_slot x y i all.0
same_marks (x ∷ xs) (y ∷ ys) all (suc q) i = same_marks xs ys all.1 q i

-- the same names stand for the same nodes
pub same_names : (xs ys : List (String Global × NodeId)) → AllZip (λ p q. (string_bytes q.0 ≡ string_bytes p.0) × (q.1 ≡ p.1)) xs ys → names_of ys ≡ names_of xs
same_names [] [] all = refl
same_names [] (y ∷ ys) all = absurd all
same_names (x ∷ xs) [] all = absurd all
same_names (x ∷ xs) (y ∷ ys) all = λ d. (all.0.0 d, all.0.1 d) ∷ same_names xs ys all.1 d

-- keys stand for the same packages
pub same_keys : (xs ys : List (Key × PackageId)) → AllZip (λ p q. (q.0 ≡ p.0) × (q.1 ≡ p.1)) xs ys → ys ≡ xs
same_keys xs ys all = same_from_all_zip (λ p q. (q.0 ≡ p.0) × (q.1 ≡ p.1)) xs ys all (λ x y r. λ d. (r.0 d, r.1 d))

pub same_graph : (a b : Fields) → b.types ≡ a.types → AreClones a.nodes.slots b.nodes.slots → b.nodes.vacant_key ≡ a.nodes.vacant_key → b.edges ≡ a.edges
    → AllZip (λ p q. (string_bytes q.0 ≡ string_bytes p.0) × (q.1 ≡ p.1)) a.exports.entries b.exports.entries → b.slots.items ≡ a.slots.items → b.vacant.items ≡ a.vacant.items → graph_of b ≡ graph_of a
same_graph a b types nodes next edges exports slots vacant =
    let shown : nodes_of b.nodes.slots ≡ nodes_of a.nodes.slots = ap finite.from_entries (same_entries 0 a.nodes.slots b.nodes.slots nodes) in
    let named : names_of b.exports.entries ≡ names_of a.exports.entries = same_names a.exports.entries b.exports.entries exports in
    λ d. record { types = types d; nodes = shown d; next = next d; edges = edges d; exports = named d; slots = slots d; vacant = reverse (vacant d) }

-- so what is always true of a graph's fields is true of those of its clone
pub invariant_clone : (a b : Fields) → Invariant a → graph_of b ≡ graph_of a → ((q i : ℕ) → satisfied_at (get b.nodes q) i ≡ satisfied_at (get a.nodes q) i)
    → b.package_map.entries ≡ a.package_map.entries → names_of b.imports.entries ≡ names_of a.imports.entries → ((q : ℕ) → is_again b.lost q ≡ is_again a.lost q) → length b.slots.items ≤ vec_capacity b.vacant → Invariant b
invariant_clone a b v same marks keys names again room = record {
  sound = subst IsSound (sym same) v.sound;
  marked = λ s t i stands. marks t.0 i ∙ v.marked s t i (ap (λ (g : Graph). set.contains g.edges (argument_edge s t i)) (sym same) ∙ stands);
  edged = λ t i h. let (s, stands) = v.edged t i (sym (marks t.0 i) ∙ h) in (s, ap (λ (g : Graph). set.contains g.edges (argument_edge s t i)) same ∙ stands);
  keyed = subst (AreKeyed b.slots.items) (sym keys) (subst (λ (g : Graph). AreKeyed g.slots a.package_map.entries) (sym same) v.keyed);
  room = room;
  named = λ name n h. ap (λ es. find_name es name) names ∙ v.named name n (subst (λ (g : Graph). IsImportOf g name n) same h);
  importing = λ name n at. subst (λ (g : Graph). IsImportOf g name n) (sym same) (v.importing name n (ap (λ es. find_name es name) (sym names) ∙ at));
  told = λ i name n at. (λ j. tells (again n.0 j) (shown n j) name) ∙ v.told i name n (ap (λ (g : Graph). slice_get g.exports i) (sym same) ∙ at);
} where
  shown : (n : NodeId) → option_map node_of (get b.nodes n.0) ≡ option_map node_of (get a.nodes n.0)
  shown n = sym (get-nodes_of b.nodes.slots n.0) ∙ ap (λ (g : Graph). node_at g n) same ∙ get-nodes_of a.nodes.slots n.0
