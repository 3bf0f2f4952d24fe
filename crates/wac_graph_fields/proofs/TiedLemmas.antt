-- Nodes and edges while a node is taken out with all that goes with it.
use Rattle.std.proofs.Common.{◌≡◌, ◌≢◌, ℕ, ◌-◌, ◌<◌, ◌≤◌, Bool, true, false, cond, not, ◌&&◌, ◌==◌, refl, ap, ◌∙◌, sym, subst, arith, Option, Some, None, IsSome, is_some}
use Rattle.std.specs.Option.{option_map}
use Rattle.std.specs.Ordering.{eq_by_cmp, is_eq}
use Rattle.std.specs.Cmp.{tied_itself}
use Rattle.std.specs.FinSet as set
use Rattle.std.proofs.lemmas.Bool.{eqb-true}
use Rattle.slab.specs.Slab.{Slab, get, Updates}
use Rattle.wac_edges.specs.declared.edges.Edge.{Edge}
use Rattle.wac_edges.specs.declared.edges.Label.{Label}
use Rattle.wac_edges.specs.declared.edges.Label.TheVariants as label
use Rattle.wac_edges.specs.declared.node.NodeId.{NodeId}
use Rattle.wac_edges.specs.Edge.{edge_cmp, argument_edge, node_number}
use Rattle.wac_edges.specs.Order.{Edges}
use Rattle.wac_edges.proofs.EdgeLemmas.{edge_cmp_total, exact_edges}
use Rattle.wac_edges.proofs.WrittenOrder.{eqb_same}
use Rattle.wac_graph_model.specs.declared.nodes.node.Node.{Node}
use Rattle.wac_graph_model.specs.nodes.Graph.{GraphNode}
use Rattle.wac_graph_model.specs.nodes.Nodes.{node_of, satisfied_at, IsInstantiationAt}
use Rattle.wac_graph_fields.specs.private.Removing.{AreTied}
use Rattle.wac_graph_fields.proofs.WayLemmas.{IsIn, by_eq, same_id}

pub clash : (b : Bool) → b ≡ true → b ≡ false → ⊥
clash true _ h = cc
clash false h _ = cc

both_true : (x y : Bool) → (x && y) ≡ true → (x ≡ true) × (y ≡ true)
both_true true y h = (refl, h)
both_true false y h = cc

not_true : (b : Bool) → not b ≡ true → b ≡ false
not_true true h = cc
not_true false h = refl

not_false : (b : Bool) → (b ≡ true → ⊥) → not b ≡ true
not_false true h = absurd (h refl)
not_false false h = refl

pub none_some : {A : Type 0} (o : Option A) → o ≡ None → IsSome o → ⊥
none_some None is h = cc
none_some (Some x) is h = cc

-- ---- sets of edges
pub by_edge : {P : Type 0} (e f : Edge) → (e ≡ f → P) → ((e ≡ f → ⊥) → P) → P
by_edge {P} e f same other = split (eq_by_cmp edge_cmp e f) refl where
  split : (b : Bool) → eq_by_cmp edge_cmp e f ≡ b → P
  split true is = same (exact_edges e f is)
  split false is = other (λ alike. clash (eq_by_cmp edge_cmp e f) (ap (λ y. eq_by_cmp edge_cmp y f) alike ∙ ap is_eq (tied_itself edge_cmp_total f)) is)

-- an edge of a set without one of its edges, and the other way round
pub removed_edge : (s : Edges) (x e : Edge) → IsIn (set.remove s x) e → IsIn s e × (e ≡ x → ⊥)
removed_edge s x e h =
    let parts = both_true (not (eq_by_cmp edge_cmp e x)) (set.contains s e) (sym (set.contains-remove edge_cmp_total s x e) ∙ h) in
    (parts.1, λ same. clash (eq_by_cmp edge_cmp e x) (ap (λ y. eq_by_cmp edge_cmp y x) same ∙ ap is_eq (tied_itself edge_cmp_total x)) (not_true (eq_by_cmp edge_cmp e x) parts.0))

pub left_edge : (s : Edges) (x e : Edge) → IsIn s e → (e ≡ x → ⊥) → IsIn (set.remove s x) e
left_edge s x e h other = set.contains-remove edge_cmp_total s x e ∙ ap (λ b. b && set.contains s e) (not_false (eq_by_cmp edge_cmp e x) (λ is. other (exact_edges e x is))) ∙ h

pub one_less : (s : Edges) (e : Edge) → IsIn s e → set.len (set.remove s e) < set.len s
one_less s e stands = by_eq (set.len s) 0
    (λ none. absurd (clash (set.contains s e) stands (ap (λ t. set.contains t e) (set.empty_of_len s none) ∙ set.contains-empty edge_cmp e)))
    (λ some. let count : set.len (set.remove s e) ≡ set.len s - 1 = set.len-remove edge_cmp_total s e ∙ ap (λ b. cond b (set.len s - 1) (set.len s)) stands in omega (arith, count, some))

-- ---- nodes
pub some_same : (o p : Option Node) → option_map node_of o ≡ option_map node_of p → IsSome p → IsSome o
some_same (Some x) p same h = refl
some_same None (Some y) same h = cc
some_same None None same h = h

instantiation_same : (o p : Option Node) → option_map node_of o ≡ option_map node_of p → IsInstantiationAt p → IsInstantiationAt o
instantiation_same (Some x) (Some y) same h = let alike : node_of x ≡ node_of y = cc in ap (λ (n : GraphNode). n.kind) alike ∙ h
instantiation_same (Some x) None same h = absurd h
instantiation_same None (Some y) same h = cc
instantiation_same None None same h = h

abbrev pub AreSame : Slab Node → Slab Node → Type 0
AreSame new old = (q : ℕ) → option_map node_of (get new q) ≡ option_map node_of (get old q)

module _ (nodes now : Slab Node) (edges : Edges) (t : AreTied nodes edges) (same : AreSame now nodes) (e : Edge) (stands : IsIn edges e) where
  part : (x : Edge) → IsIn (set.remove edges e) x → IsIn edges x
  part x h = (removed_edge edges e x h).0

  ends : (x : Edge) → IsIn (set.remove edges e) x → IsSome (get now x.source.0) × IsSome (get now x.target.0)
  ends x h = let both = t.ends x (part x h) in (some_same (get now x.source.0) (get nodes x.source.0) (same x.source.0) both.0, some_same (get now x.target.0) (get nodes x.target.0) (same x.target.0) both.1)

  consumers : (s c : NodeId) (i : ℕ) → IsIn (set.remove edges e) (argument_edge s c i) → IsInstantiationAt (get now c.0)
  consumers s c i h = instantiation_same (get now c.0) (get nodes c.0) (same c.0) (t.consumers s c i (part (argument_edge s c i) h))

  one_argument : (s o c : NodeId) (i : ℕ) → IsIn (set.remove edges e) (argument_edge s c i) → IsIn (set.remove edges e) (argument_edge o c i) → s ≡ o
  one_argument s o c i h k = t.one_argument s o c i (part (argument_edge s c i) h) (part (argument_edge o c i) k)

  -- the edge is of no argument
  pub tied_but : ((q i : ℕ) → satisfied_at (get now q) i ≡ satisfied_at (get nodes q) i) → ((s c : NodeId) (i : ℕ) → argument_edge s c i ≡ e → ⊥) → AreTied now (set.remove edges e)
  tied_but marks other = record {
    ends = ends;
    consumers = consumers;
    one_argument = one_argument;
    marked = λ s c i h. marks c.0 i ∙ t.marked s c i (part (argument_edge s c i) h);
    edged = λ c i h. let (s, there) = t.edged c i (sym (marks c.0 i) ∙ h) in (s, left_edge edges e (argument_edge s c i) there (other s c i));
  }

  -- the edge is of an argument
  pub tied_without : (position : ℕ) → e.label ≡ label.Argument position → ((q i : ℕ) → satisfied_at (get now q) i ≡ (satisfied_at (get nodes q) i && not (q == e.target.0 && i == position))) → AreTied now (set.remove edges e)
  tied_without position is marks = record {
    ends = ends;
    consumers = consumers;
    one_argument = one_argument;
    marked = λ s c i h. marks c.0 i ∙ marked s c i (removed_edge edges e (argument_edge s c i) h);
    edged = λ c i h. edged c i (both_true (satisfied_at (get nodes c.0) i) (not (c.0 == e.target.0 && i == position)) (sym (marks c.0 i) ∙ h));
  } where
    e_is : e ≡ argument_edge e.source e.target position
    e_is = λ d. record { source = e.source; target = e.target; label = is d }

    at_position : (s c : NodeId) (i : ℕ) → (c.0 == e.target.0 && i == position) ≡ true → argument_edge s c i ≡ argument_edge s e.target position
    at_position s c i here = let (c_is, i_is) = both_true (c.0 == e.target.0) (i == position) here in λ d. argument_edge s (node_number (eqb-true c.0 e.target.0 c_is d)) (eqb-true i position i_is d)

    marked : (s c : NodeId) (i : ℕ) → IsIn edges (argument_edge s c i) × (argument_edge s c i ≡ e → ⊥) → (satisfied_at (get nodes c.0) i && not (c.0 == e.target.0 && i == position)) ≡ true
    marked s c i (there, other) = ap (λ b. b && not (c.0 == e.target.0 && i == position)) (t.marked s c i there) ∙ not_false (c.0 == e.target.0 && i == position) (λ here.
        let at = at_position s c i here in
        let one : s ≡ e.source = t.one_argument s e.source e.target position (ap (set.contains edges) (sym at) ∙ there) (ap (set.contains edges) (sym e_is) ∙ stands) in
        other (at ∙ ap (λ (n : NodeId). argument_edge n e.target position) one ∙ sym e_is))

    edged : (c : NodeId) (i : ℕ) → (satisfied_at (get nodes c.0) i ≡ true) × (not (c.0 == e.target.0 && i == position) ≡ true) → (s : NodeId) × IsIn (set.remove edges e) (argument_edge s c i)
    edged c i (h, other) =
        let (s, there) = t.edged c i h in
        (s, left_edge edges e (argument_edge s c i) there (λ alike. clash (c.0 == e.target.0 && i == position) (here s c i (alike ∙ e_is)) (not_true (c.0 == e.target.0 && i == position) other))) where
          here : (s c : NodeId) (i : ℕ) → argument_edge s c i ≡ argument_edge e.source e.target position → (c.0 == e.target.0 && i == position) ≡ true
          here s c i alike =
              let c_is : c.0 ≡ e.target.0 = ap (λ (x : Edge). x.target.0) alike in
              let i_is : i ≡ position = let labels : label.Argument i ≡ label.Argument position = ap (λ (x : Edge). x.label) alike in cc in
              rw (c_is, i_is, eqb_same e.target.0) (eqb_same position)

-- a node without edges is taken out
pub tied_gone : (nodes now : Slab Node) (edges : Edges) (n : ℕ) → AreTied nodes edges → Updates nodes now n None → ((e : Edge) → IsIn edges e → e.source.0 ≢ n) → ((e : Edge) → IsIn edges e → e.target.0 ≢ n) → AreTied now edges
tied_gone nodes now edges n t u from into = record {
  ends = λ e h. let both = t.ends e h in (ap is_some (u.others e.source.0 (from e h)) ∙ both.0, ap is_some (u.others e.target.0 (into e h)) ∙ both.1);
  consumers = λ s c i h. subst IsInstantiationAt (sym (u.others c.0 (into (argument_edge s c i) h))) (t.consumers s c i h);
  one_argument = t.one_argument;
  marked = λ s c i h. ap (λ o. satisfied_at o i) (u.others c.0 (into (argument_edge s c i) h)) ∙ t.marked s c i h;
  edged = λ c i h. by_eq c.0 n
      (λ here. absurd (clash (satisfied_at (get now c.0) i) h (ap (λ k. satisfied_at (get now k) i) here ∙ ap (λ o. satisfied_at o i) u.changed)))
      (λ other. t.edged c i (ap (λ o. satisfied_at o i) (sym (u.others c.0 other)) ∙ h));
}

-- an argument is given to an instantiation
pub consumer_of : (nodes : Slab Node) (edges : Edges) → AreTied nodes edges → (e : Edge) → IsIn edges e → (i : ℕ) → e.label ≡ label.Argument i → IsInstantiationAt (get nodes e.target.0)
consumer_of nodes edges t e stands i is = t.consumers e.source e.target i (subst (λ (l : Label). IsIn edges (record { source = e.source; target = e.target; label = l })) is stands)

-- ---- edges into a node are taken, but for one that is kept
pub record IsPruned (old : Slab Node) (were : Edges) (node : NodeId) (kept : Option Edge) (nodes : Slab Node) (edges : Edges) : Type 0 where
  pub less : (e : Edge) → IsIn edges e → IsIn were e
  pub others : (e : Edge) → IsIn were e → (e.target ≡ node → ⊥) → IsIn edges e
  pub still : (e : Edge) → IsIn were e → kept ≡ Some e → IsIn edges e
  pub fewer : set.len edges ≤ set.len were
  pub same : AreSame nodes old
  pub tied : AreTied nodes edges

pub pruned_first : (old : Slab Node) (were : Edges) (node : NodeId) (kept : Option Edge) → AreTied old were → IsPruned old were node kept old were
pruned_first old were node kept t = record { less = λ e h. h; others = λ e h _. h; still = λ e h _. h; fewer = omega arith; same = λ q. refl; tied = t }

pub pruned_more : (old : Slab Node) (were : Edges) (node : NodeId) (kept : Option Edge) (nodes now : Slab Node) (edges less : Edges) (e : Edge) → IsPruned old were node kept nodes edges → IsIn edges e → e.target ≡ node → (kept ≡ Some e → ⊥)
    → less ≡ set.remove edges e → AreSame now nodes → AreTied now less → IsPruned old were node kept now less
pruned_more old were node kept nodes now edges less e p stands into other is same tied = record {
  less = λ x h. p.less x (removed_edge edges e x (subst (λ s. IsIn s x) is h)).0;
  others = λ x h differ. back x (left_edge edges e x (p.others x h differ) (λ alike. differ (ap (λ (y : Edge). y.target) alike ∙ into)));
  still = λ x h keep. back x (left_edge edges e x (p.still x h keep) (λ alike. other (keep ∙ ap Some alike)));
  fewer = let small = one_less edges e stands in let before = p.fewer in let count : set.len less ≡ set.len (set.remove edges e) = ap set.len is in omega (arith, small, before, count);
  same = λ q. same q ∙ p.same q;
  tied = tied;
} where
  back : (x : Edge) → IsIn (set.remove edges e) x → IsIn less x
  back x h = subst (λ s. IsIn s x) (sym is) h

pub fewer_then : (edges less : Edges) (e : Edge) → IsIn edges e → less ≡ set.remove edges e → set.len less < set.len edges
fewer_then edges less e stands is = let small = one_less edges e stands in let count : set.len less ≡ set.len (set.remove edges e) = ap set.len is in omega (arith, small, count)

-- where none but the one that is kept is left, each that is left is that one
pub only_kept : (kept : Option Edge) (e : Edge) → ((kept ≡ Some e → ⊥) → ⊥) → kept ≡ Some e
only_kept None e h = absurd (h (λ wrong. none wrong)) where
  none : None ≡ Some e → ⊥
  none h = cc
only_kept (Some k) e h = by_edge k e (λ same. ap Some same) (λ differ. absurd (h (λ is. differ (parts is)))) where
  parts : Some k ≡ Some e → k ≡ e
  parts h = cc

-- a node is taken out from which no edge leads, after the only edge to it
pub tied_left : (nodes now : Slab Node) (edges less : Edges) (here : NodeId) (e one : Edge) → AreTied nodes less → less ≡ set.remove edges e → Updates nodes now here.0 None → ((x : Edge) → IsIn edges x → x.source ≡ here → ⊥) → IsIn edges e → e.target ≡ here
    → ((x : Edge) → IsIn edges x → x.target ≡ here → x ≡ one) → AreTied now less
tied_left nodes now edges less here e one t is u none stands into only =
    tied_gone nodes now less here.0 t u (λ x h at. none x (part x h).0 (same_id x.source here at)) (λ x h at. (part x h).1 (only x (part x h).0 (same_id x.target here at) ∙ sym (only e stands into))) where
      part : (x : Edge) → IsIn less x → IsIn edges x × (x ≡ e → ⊥)
      part x h = removed_edge edges e x (subst (λ s. IsIn s x) is h)
