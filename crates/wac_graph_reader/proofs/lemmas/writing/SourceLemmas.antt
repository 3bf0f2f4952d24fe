-- The walk over the edges to an instantiation, which notes where its arguments come from.
use Rattle.std.proofs.Common.{◌≡◌, ◌≢◌, ℕ, zero, suc, ◌<◌, ◌≤◌, true, List, [], ◌∷◌, length, replicate, slice_get, slice_set, slice_index_or, Contains, Option, Some, None, refl, sym, ap, ◌∙◌, subst, ◌⊎◌, inl, inr, arith}
use Rattle.std.specs.FinSet as set
use Rattle.std.proofs.lemmas.Option.{slice_get_read}
use Rattle.slab.proofs.SlabLemmas.{Contains-cons, Contains-cons_cases}
use Rattle.wac_edges.specs.declared.edges.Edge.{Edge}
use Rattle.wac_edges.specs.declared.edges.Label.{Label}
use Rattle.wac_edges.specs.declared.edges.Label.TheVariants.{Alias, Argument, Dependency}
use Rattle.wac_edges.specs.declared.edges.End.TheVariants.{Incoming}
use Rattle.wac_edges.specs.declared.node.NodeId.{NodeId}
use Rattle.wac_edges.specs.Edge.{node_number, argument_edge}
use Rattle.wac_edges.specs.Ends.{AreAt}
use Rattle.wac_edges.specs.Order.{Edges}
use Rattle.wac_graph_model.specs.nodes.Graph.{Graph, IsArgumentOf}
use Rattle.wac_graph_fields.specs.private.Fields.{Fields, graph_of}

-- ---- lists
replicated : {X : Type 0} (n : ℕ) (x y : X) (i : ℕ) → slice_get (replicate n x) i ≡ Some y → y ≡ x
replicated zero x y i h = absurd (cc)
replicated (suc n) x y zero h = cc
replicated (suc n) x y (suc i) h = replicated n x y i h

pub set_past : {X : Type 0} (xs : List X) (k : ℕ) (v : X) → length xs ≤ k → xs ≡ slice_set xs k v
set_past [] k v past = refl
set_past (x ∷ xs) zero v past = absurd (omega (arith, past))
set_past (x ∷ xs) (suc k) v past = ap (λ l. x ∷ l) (set_past xs k v (omega (arith, past)))

set_length : {X : Type 0} (xs : List X) (k : ℕ) (v : X) → length (slice_set xs k v) ≡ length xs
set_length [] k v = refl
set_length (x ∷ xs) zero v = refl
set_length (x ∷ xs) (suc k) v = ap suc (set_length xs k v)

set_get : {X : Type 0} (xs : List X) (k : ℕ) (v : X) (i : ℕ) (y : X) → slice_get (slice_set xs k v) i ≡ Some y → ((i ≡ k → ⊥) × (slice_get xs i ≡ Some y)) ⊎ ((i ≡ k) × (y ≡ v))
set_get [] k v i y h = absurd (cc)
set_get (x ∷ xs) zero v zero y h = inr (refl, cc)
set_get (x ∷ xs) zero v (suc i) y h = inl (λ e. omega (arith, e), h)
set_get (x ∷ xs) (suc k) v zero y h = inl (λ e. omega (arith, e), h)
set_get {X} (x ∷ xs) (suc k) v (suc i) y h = more (set_get xs k v i y h) where
  more : ((i ≡ k → ⊥) × (slice_get xs i ≡ Some y)) ⊎ ((i ≡ k) × (y ≡ v)) → ((suc i ≡ suc k → ⊥) × (slice_get xs i ≡ Some y)) ⊎ ((suc i ≡ suc k) × (y ≡ v))
  more (inl other) = inl (λ e. other.0 (omega (arith, e)), other.1)
  more (inr here) = inr (ap suc here.0, here.1)

-- a clone of none is none
pub only_none : (P : Option NodeId → Type 0) → ((x : NodeId) → P (Some x) → ⊥) → (y : Option NodeId) → P y → y ≡ None
only_none P never None h = refl
only_none P never (Some x) h = absurd (never x h)

-- ---- what is known while the edges to a node are read
pub record Noting (edges : Edges) (node : NodeId) (count : ℕ) (left : List Edge) (sources : List (Option NodeId)) : Type 0 where
  pub counted : length sources ≡ count
  pub sound : (e : Edge) → Contains left e → (set.contains edges e ≡ true) × (e.target ≡ node)
  pub given : (i : ℕ) (s : NodeId) → slice_get sources i ≡ Some (Some s) → set.contains edges (argument_edge s node i) ≡ true
  pub rest : (i : ℕ) (s : NodeId) → slice_get sources i ≡ Some None → set.contains edges (argument_edge s node i) ≡ true → Contains left (argument_edge s node i)

module _ (edges : Edges) (node : NodeId) (count : ℕ) where
  pub noting_start : (es left : List Edge) (sources : List (Option NodeId)) → left ≡ es → AreAt edges node Incoming es → sources ≡ replicate count None → length sources ≡ count → Noting edges node count left sources
  noting_start es left sources is a empty long = subst (λ (l : List Edge). Noting edges node count l sources) (sym is) (record {
    counted = long;
    sound = λ e w. (a.all e).0 w;
    given = λ i s h. let none : Some s ≡ None = replicated count None (Some s) i (subst (λ (v : List (Option NodeId)). slice_get v i ≡ Some (Some s)) empty h) in absurd (cc);
    rest = λ i s h w. (a.all (argument_edge s node i)).1 (w, refl);
  })

  module _ (x : Edge) (es left : List Edge) (old new : List (Option NodeId)) (is : left ≡ x ∷ es) (before : Noting edges node count left old) where
    still : (e : Edge) → Contains es e → (set.contains edges e ≡ true) × (e.target ≡ node)
    still e w = before.sound e (subst (λ (l : List Edge). Contains l e) (sym is) (Contains-cons x e es w))

    stays : (i : ℕ) (s : NodeId) → (x.label ≡ Argument i → ⊥) → Contains left (argument_edge s node i) → Contains es (argument_edge s node i)
    stays i s other w = elim (Contains-cons_cases x (argument_edge s node i) es (subst (λ (l : List Edge). Contains l (argument_edge s node i)) is w)) [
      | inl same ↦ absurd (other (ap (λ (e : Edge). e.label) same))
      | inr within ↦ within
    ]

    its_edge : (k : ℕ) → x.label ≡ Argument k → set.contains edges (argument_edge x.source node k) ≡ true
    its_edge k at =
        let (has, there) = before.sound x (subst (λ (l : List Edge). Contains l x) (sym is) (0, omega arith, refl)) in
        subst (λ (l : Label). set.contains edges (record { source = x.source; target = node; label = l }) ≡ true) at
        (subst (λ (m : NodeId). set.contains edges (record { source = x.source; target = m; label = x.label }) ≡ true) there has)

    passed : ((i : ℕ) → x.label ≢ Argument i) → new ≡ old → Noting edges node count es new
    passed other same = subst (λ (v : List (Option NodeId)). Noting edges node count es v) (sym same) (record {
      counted = before.counted;
      sound = still;
      given = before.given;
      rest = λ i s h w. stays i s (other i) (before.rest i s h w);
    })

    placed : (k : ℕ) → x.label ≡ Argument k → new ≡ slice_set old k (Some x.source) → Noting edges node count es new
    placed k at set_at = subst (λ (v : List (Option NodeId)). Noting edges node count es v) (sym set_at) (record {
      counted = set_length old k (Some x.source) ∙ before.counted;
      sound = still;
      given = λ i s h. elim (set_get old k (Some x.source) i (Some s) h) [
        | inl other ↦ before.given i s other.1
        | inr here ↦ let from : s ≡ x.source = let it = here.1 in cc in subst (λ (j : ℕ). set.contains edges (argument_edge s node j) ≡ true) (sym here.0) (subst (λ (m : NodeId). set.contains edges (argument_edge m node k) ≡ true) (sym from) (its_edge k at))
      ];
      rest = λ i s h w. elim (set_get old k (Some x.source) i None h) [
        | inl other ↦ stays i s (λ here. other.0 (let both : Argument i ≡ Argument k = sym here ∙ at in cc)) (before.rest i s other.1 w)
        | inr here ↦ let it = here.1 in absurd (cc)
      ];
    })

    pub noting_next : ((i : ℕ) → x.label ≡ Argument i → new ≡ slice_set old i (Some x.source)) → (((i : ℕ) → x.label ≢ Argument i) → new ≡ old) → Noting edges node count es new
    noting_next argument other = by_label x.label refl where
      by_label : (l : Label) → x.label ≡ l → Noting edges node count es new
      by_label (Argument k) at = placed k at (argument k at)
      by_label (Alias k) at = let none : (i : ℕ) → x.label ≢ Argument i = λ i h. (let both : Alias k ≡ Argument i = sym at ∙ h in absurd (cc)) in passed none (other none)
      by_label Dependency at = let none : (i : ℕ) → x.label ≢ Argument i = λ i h. (let both : Dependency ≡ Argument i = sym at ∙ h in absurd (cc)) in passed none (other none)

  -- no edge is left
  pub none_left : (left : List Edge) (sources : List (Option NodeId)) → left ≡ [] → Noting edges node count left sources → (i : ℕ) (s : NodeId) → slice_get sources i ≡ Some None → set.contains edges (argument_edge s node i) ≡ true → ⊥
  none_left left sources is n i s h w = let (k, within, _) = subst (λ (l : List Edge). Contains l (argument_edge s node i)) is (n.rest i s h w) in omega (arith, within)

-- ---- what is read of the places
pub source_at : (sources : List (Option NodeId)) (count i : ℕ) (x y : Option NodeId) → length sources ≡ count → i < count → x ≡ slice_index_or sources i x → x ≡ y → slice_get sources i ≡ Some y
source_at sources count i x y counted small read is = slice_get_read sources count i x (sym counted) small read ∙ ap Some is

pub source_given : (a : Fields) (g : Graph) → graph_of a ≡ g → (n i count : ℕ) (sources : List (Option NodeId)) (x : Option NodeId) (source : NodeId) → length sources ≡ count → i < count → x ≡ slice_index_or sources i x → x ≡ Some source
    → ((j : ℕ) (s : NodeId) → slice_get sources j ≡ Some (Some s) → IsArgumentOf g (node_number n) j s) → set.contains a.edges (argument_edge (node_number source.0) (node_number n) i) ≡ true
source_given a g e n i count sources x source counted small read is set_at =
    subst (λ (h : Graph). IsArgumentOf h (node_number n) i source) (sym e) (set_at i source (source_at sources count i x (Some source) counted small read is))
