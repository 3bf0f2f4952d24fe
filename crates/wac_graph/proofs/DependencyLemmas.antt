-- The walk over the edges to a node, which gathers the sources of dependency edges, and the list of them.
use Rattle.std.proofs.Common.{◌≡◌, ◌<◌, ◌⊎◌, ℕ, true, List, [], ◌∷◌, map, Contains, refl, ap, sym, ◌∙◌, subst, inl, inr, arith}
use Rattle.std.specs.Prelude.{◌↔◌}
use Rattle.std.specs.BTreeSet.{insert_key}
use Rattle.std.specs.FinSet as set
use Rattle.std.specs.List.Sorted.{IsStrictlySortedBy}
use Rattle.std.specs.Ordering.{nat_cmp}
use Rattle.slab.proofs.SlabLemmas.{Contains-cons, Contains-cons_cases}
use Rattle.wac_edges.specs.declared.edges.Edge.{Edge}
use Rattle.wac_edges.specs.declared.edges.Label.{Label}
use Rattle.wac_edges.specs.declared.edges.Label.TheVariants.{Alias, Argument, Dependency}
use Rattle.wac_edges.specs.declared.edges.End.TheVariants.{Incoming}
use Rattle.wac_edges.specs.declared.node.NodeId.{NodeId}
use Rattle.wac_edges.specs.Edge.{node_number}
use Rattle.wac_edges.specs.Order.{Edges}
use Rattle.wac_edges.specs.Ends.{AreAt}
use Rattle.wac_edges.specs.private.cycles.Numbers.{Has}
use Rattle.wac_edges.proofs.lemmas.cycles.Numbers.{has_head, has_insert, has_new, has_old, has_split, has_tail}
use Rattle.wac_graph_model.specs.nodes.Definitions.{dependency_edge}
use Rattle.wac_graph_model.specs.nodes.Graph.{Graph}
use Rattle.wac_graph.specs.Listed.{AreDependencies, IsDependencyOf}

no_element : {A : Type 0} (x : A) → Contains [] x → ⊥
no_element x h = let low : h.0 < 0 = h.1 in omega (arith, low)

first_element : {A : Type 0} (x : A) (xs : List A) → Contains (x ∷ xs) x
first_element x xs = (0, omega arith, refl)

-- ---- the walk
-- What is known while the edges to a node are read.
pub record Gathering (edges : Edges) (node : NodeId) (left : List Edge) (keys : List ℕ) : Type 0 where
  pub sound : (e : Edge) → Contains left e → (set.contains edges e ≡ true) × (e.target ≡ node)
  pub given : (n : ℕ) → Has keys n → set.contains edges (dependency_edge (node_number n) node) ≡ true
  pub rest : (n : ℕ) → set.contains edges (dependency_edge (node_number n) node) ≡ true → Has keys n ⊎ Contains left (dependency_edge (node_number n) node)

module _ (edges : Edges) (node : NodeId) where
  pub gather_start : (es left : List Edge) (keys : List ℕ) → left ≡ es → AreAt edges node Incoming es → keys ≡ [] → Gathering edges node left keys
  gather_start es left keys is at empty = subst (λ (l : List Edge). Gathering edges node l keys) (sym is) (subst (λ (ks : List ℕ). Gathering edges node es ks) (sym empty) (record {
    sound = λ e w. (at.all e).0 w;
    given = λ n h. cc;
    rest = λ n h. inr ((at.all (dependency_edge (node_number n) node)).1 (h, refl));
  }))

  module _ (x : Edge) (es left : List Edge) (old new : List ℕ) (is : left ≡ x ∷ es) (before : Gathering edges node left old) where
    here : Contains left x
    here = subst (λ (l : List Edge). Contains l x) (sym is) (first_element x es)

    still : (e : Edge) → Contains es e → (set.contains edges e ≡ true) × (e.target ≡ node)
    still e w = before.sound e (subst (λ (l : List Edge). Contains l e) (sym is) (Contains-cons x e es w))

    cases : (e : Edge) → Contains left e → (x ≡ e) ⊎ Contains es e
    cases e w = Contains-cons_cases x e es (subst (λ (l : List Edge). Contains l e) is w)

    passed : (x.label ≡ Dependency → ⊥) → new ≡ old → Gathering edges node es new
    passed other same = subst (λ (ks : List ℕ). Gathering edges node es ks) (sym same) (record {
      sound = still;
      given = before.given;
      rest = λ n h. elim (before.rest n h) [
        | inl has ↦ inl has
        | inr w ↦ elim (cases (dependency_edge (node_number n) node) w) [
          | inl e ↦ absurd (other (ap (λ (y : Edge). y.label) e))
          | inr within ↦ inr within
        ]
      ];
    })

    its_edge : x.label ≡ Dependency → set.contains edges (dependency_edge x.source node) ≡ true
    its_edge at =
        let (has, there) = before.sound x here in
        subst (λ (l : Label). set.contains edges (record { source = x.source; target = node; label = l }) ≡ true) at
        (subst (λ (m : NodeId). set.contains edges (record { source = x.source; target = m; label = x.label }) ≡ true) there has)

    put : x.label ≡ Dependency → new ≡ insert_key nat_cmp old x.source.0 → Gathering edges node es new
    put at grown = subst (λ (ks : List ℕ). Gathering edges node es ks) (sym grown) (record {
      sound = still;
      given = λ n h. elim (has_insert old x.source.0 n h) [
        | inl e ↦ subst (λ (k : ℕ). set.contains edges (dependency_edge (node_number k) node) ≡ true) (sym e) (its_edge at)
        | inr w ↦ before.given n w
      ];
      rest = λ n h. elim (before.rest n h) [
        | inl has ↦ inl (has_old old x.source.0 n has)
        | inr w ↦ elim (cases (dependency_edge (node_number n) node) w) [
          | inl e ↦ inl (subst (λ (k : ℕ). Has (insert_key nat_cmp old x.source.0) k) (ap (λ (y : Edge). y.source.0) e) (has_new old x.source.0))
          | inr within ↦ inr within
        ]
      ];
    })

    pub gather_next : (x.label ≡ Dependency → new ≡ insert_key nat_cmp old x.source.0) → ((x.label ≡ Dependency → ⊥) → new ≡ old) → Gathering edges node es new
    gather_next dependency other = by x.label refl
      where
        by : (l : Label) → x.label ≡ l → Gathering edges node es new
        by (Alias i) at = let no : x.label ≡ Dependency → ⊥ = λ e. (let wrong : Alias i ≡ Dependency = sym at ∙ e in cc) in passed no (other no)
        by (Argument i) at = let no : x.label ≡ Dependency → ⊥ = λ e. (let wrong : Argument i ≡ Dependency = sym at ∙ e in cc) in passed no (other no)
        by Dependency at = put at (dependency at)

  pub gathered : (left : List Edge) (keys : List ℕ) → left ≡ [] → Gathering edges node left keys → (n : ℕ) → Has keys n ↔ (set.contains edges (dependency_edge (node_number n) node) ≡ true)
  gathered left keys none g n = (g.given n, λ h. elim (g.rest n h) [ inl has ↦ has | inr w ↦ absurd (no_element _ (subst (λ (l : List Edge). Contains l (dependency_edge (node_number n) node)) none w)) ])

-- ---- the list
numbered : (ks : List ℕ) → map (λ n. n.0) (map node_number ks) ≡ ks
numbered [] = refl
numbered (k ∷ ks) = ap (λ l. k ∷ l) (numbered ks)

to_has : (ks : List ℕ) (n : NodeId) → Contains (map node_number ks) n → Has ks n.0
to_has [] n h = absurd (no_element n h)
to_has (k ∷ ks) n h = elim (Contains-cons_cases (node_number k) n (map node_number ks) h) [
  | inl e ↦ has_head n.0 k ks (sym (ap (λ (m : NodeId). m.0) e))
  | inr w ↦ has_tail n.0 k ks (to_has ks n w)
]

from_has : (ks : List ℕ) (n : NodeId) → Has ks n.0 → Contains (map node_number ks) n
from_has [] n h = cc
from_has (k ∷ ks) n h = elim (has_split n.0 k ks h) [
  | inl e ↦ subst (λ (j : ℕ). Contains (node_number j ∷ map node_number ks) n) e (first_element n (map node_number ks))
  | inr w ↦ Contains-cons (node_number k) n (map node_number ks) (from_has ks n w)
]

pub dependencies_listed : (g : Graph) (node : NodeId) (ks : List ℕ) (ns : List NodeId) → ns ≡ map node_number ks → ((n : ℕ) → Has ks n ↔ IsDependencyOf g (node_number n) node) → IsStrictlySortedBy nat_cmp ks → AreDependencies g node ns
dependencies_listed g node ks ns is all ordered = subst (λ (l : List NodeId). AreDependencies g node l) (sym is) (record {
  all = λ n. (λ h. (all n.0).0 (to_has ks n h), λ h. from_has ks n ((all n.0).1 h));
  ordered = subst (λ (l : List ℕ). IsStrictlySortedBy nat_cmp l) (sym (numbered ks)) ordered;
})
