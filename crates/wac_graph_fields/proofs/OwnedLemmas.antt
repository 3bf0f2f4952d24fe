-- The nodes of a package are taken out.
use Rattle.std.proofs.Common.{◌≡◌, ℕ, suc, ◌<◌, ◌≤◌, Bool, true, false, cond, List, [], ◌∷◌, length, filter, refl, ap, ◌∙◌, sym, subst, arith, ◌⊎◌, inl, inr, Option, Some, None, IsSome, String, Global, string_bytes}
use Rattle.std.specs.Option.{option_map}
use Rattle.std.specs.FinSet as set
use Rattle.slab.specs.Slab.{Slab, get, Updates}
use Rattle.wac_edges.specs.declared.edges.Edge.{Edge}
use Rattle.wac_edges.specs.declared.node.NodeId.{NodeId}
use Rattle.wac_edges.specs.Order.{Edges}
use Rattle.wac_graph_model.specs.declared.nodes.node.Node.{Node}
use Rattle.wac_graph_model.specs.declared.nodes.packages.PackageId.{PackageId}
use Rattle.wac_graph_model.specs.nodes.Nodes.{node_of, names_of}
use Rattle.wac_graph_fields.specs.private.Owned.{is_of_at}
use Rattle.wac_graph_fields.specs.Unregistering.{is_of}
use Rattle.wac_graph_fields.specs.private.Removing.{AreTied, AreTaken}
use Rattle.wac_graph_fields.specs.private.Lost.{is_again}
use Rattle.wac_graph_fields.specs.declared.lost.Lost.{Lost}
use Rattle.wac_graph_fields.proofs.WayLemmas.{IsIn, by_eq, same_id}
use Rattle.wac_graph_fields.proofs.TiedLemmas.{clash, removed_edge, left_edge, AreSame, tied_gone}
use Rattle.wac_graph_fields.proofs.RemovingLemmas.{within}

false_true : false ≡ true → ⊥
false_true h = cc

-- a node of a package is there
pub of_there : (id : PackageId) (nodes : Slab Node) (q : ℕ) → is_of_at id nodes q ≡ true → IsSome (get nodes q)
of_there id nodes q h = by_node (get nodes q) h where
  by_node : (o : Option Node) → is_of id (option_map node_of o) ≡ true → IsSome o
  by_node None k = absurd (false_true k)
  by_node (Some x) k = refl

pub still_none : (o p : Option Node) → option_map node_of o ≡ option_map node_of p → p ≡ None → o ≡ None
still_none None p same is = refl
still_none (Some x) None same is = cc
still_none (Some x) (Some y) same is = cc

-- exports of names
pub names_kept : (test : NodeId → Bool) (es : List (String Global × NodeId)) → names_of (filter (λ e. test e.1) es) ≡ filter (λ e. test e.1) (names_of es)
names_kept test [] = refl
names_kept test (e ∷ es) = split (test e.1) (names_kept test es) where
  split : (b : Bool) → names_of (filter (λ x. test x.1) es) ≡ filter (λ x. test x.1) (names_of es) → names_of (cond b (e ∷ filter (λ x. test x.1) es) (filter (λ x. test x.1) es)) ≡ cond b ((string_bytes e.0, e.1) ∷ filter (λ x. test x.1) (names_of es)) (filter (λ x. test x.1) (names_of es))
  split true more = ap (λ xs. (string_bytes e.0, e.1) ∷ xs) more
  split false more = more

-- ---- edges from a node are taken
pub record IsCleared (old : Slab Node) (were : Edges) (node : NodeId) (nodes : Slab Node) (edges : Edges) : Type 0 where
  pub less : (e : Edge) → IsIn edges e → IsIn were e
  pub others : (e : Edge) → IsIn were e → (e.source ≡ node → ⊥) → IsIn edges e
  pub same : AreSame nodes old
  pub tied : AreTied nodes edges

pub cleared_first : (old : Slab Node) (were : Edges) (node : NodeId) → AreTied old were → IsCleared old were node old were
cleared_first old were node t = record { less = λ e h. h; others = λ e h _. h; same = λ q. refl; tied = t }

pub cleared_more : (old : Slab Node) (were : Edges) (node : NodeId) (nodes now : Slab Node) (edges less : Edges) (e : Edge) → IsCleared old were node nodes edges → e.source ≡ node → less ≡ set.remove edges e → AreSame now nodes → AreTied now less → IsCleared old were node now less
cleared_more old were node nodes now edges less e p from is same tied = record {
  less = λ x h. p.less x (removed_edge edges e x (subst (λ s. IsIn s x) is h)).0;
  others = λ x h differ. subst (λ s. IsIn s x) (sym is) (left_edge edges e x (p.others x h differ) (λ alike. differ (ap (λ (y : Edge). y.source) alike ∙ from)));
  same = λ q. same q ∙ p.same q;
  tied = tied;
}

-- ---- one node is taken
module _ (id : PackageId) (old : Slab Node) (were : Edges) (number : ℕ) where
  abbrev Alone : NodeId → Type 0
  Alone n = (n.0 ≡ number) × (is_of_at id old n.0 ≡ true)

  pub none_taken : is_of_at id old number ≡ false → AreTaken (λ n. (n.0 ≡ number) × (is_of_at id old n.0 ≡ true)) old were old were
  none_taken other = record {
    gone = λ n h. absurd (clash (is_of_at id old n.0) h.1 (ap (is_of_at id old) h.0 ∙ other));
    others = λ n. inl refl;
    less = λ e h. h;
    taken = λ e h. inl h;
  }

  -- the edges into it are taken, then those from it, then the node
  module _ (is : is_of_at id old number ≡ true) (first second third : Slab Node) (into from : Edges)
      (less : (e : Edge) → IsIn into e → IsIn were e) (others : (e : Edge) → IsIn were e → (e.target ≡ record { 0 = number } → ⊥) → IsIn into e) (only : (e : Edge) → IsIn into e → e.target ≡ record { 0 = number } → None ≡ Some e) (same : AreSame first old)
      (fewer : (e : Edge) → IsIn from e → IsIn into e) (rest : (e : Edge) → IsIn into e → (e.source ≡ record { 0 = number } → ⊥) → IsIn from e) (none : (e : Edge) → IsIn from e → e.source ≡ record { 0 = number } → ⊥) (alike : AreSame second first)
      (tied : AreTied second from) (u : Updates second third number None) where
    here : NodeId
    here = record { 0 = number }

    no_edge : {e : Edge} → None ≡ Some e → ⊥
    no_edge h = cc

    pub there_still : IsSome (get second number)
    there_still = by_nodes (get second number) (get old number) (alike number ∙ same number) (of_there id old number is) where
      by_nodes : (o p : Option Node) → option_map node_of o ≡ option_map node_of p → IsSome p → IsSome o
      by_nodes (Some x) p k h = refl
      by_nodes None (Some y) k h = cc
      by_nodes None None k h = h

    pub tied_alone : AreTied third from
    tied_alone = tied_gone second third from number tied u
        (λ e h at. none e h (same_id e.source (record { 0 = number }) at))
        (λ e h at. no_edge (only e (fewer e h) (same_id e.target (record { 0 = number }) at)))

    pub one_taken : AreTaken (λ n. (n.0 ≡ number) × (is_of_at id old n.0 ≡ true)) old were third from
    one_taken = record {
      gone = λ n h. ap (λ q. get third q) h.0 ∙ u.changed;
      others = λ n. by_eq n.0 number (λ at. inr (ap (λ q. get third q) at ∙ u.changed, (at, ap (is_of_at id old) at ∙ is))) (λ differ. inl (ap (option_map node_of) (u.others n.0 differ) ∙ alike n.0 ∙ same n.0));
      less = λ e h. less e (fewer e h);
      taken = λ e h. by_eq (e.target).0 number
          (λ at. inr (inr (at, ap (is_of_at id old) at ∙ is)))
          (λ to. by_eq (e.source).0 number
          (λ at. inr (inl (at, ap (is_of_at id old) at ∙ is)))
          (λ source. inl (rest e (others e h (λ k. to (ap (λ (x : NodeId). x.0) k))) (λ k. source (ap (λ (x : NodeId). x.0) k)))));
    }

-- ---- node by node
module _ (id : PackageId) (old : Slab Node) (were : Edges) (before : Lost) where
  abbrev Below : ℕ → NodeId → Type 0
  Below k n = (n.0 < k) × (is_of_at id old n.0 ≡ true)

  -- those of lower numbers are taken
  pub record IsTakingOwned (k : ℕ) (nodes : Slab Node) (edges : Edges) (lost : Lost) : Type 0 where
    pub tied : AreTied nodes edges
    pub taken : AreTaken (Below k) old were nodes edges
    pub marks : (q : ℕ) → is_of_at id old q ≡ false → is_again lost q ≡ is_again before q
    pub highest : (q : ℕ) → q < k → is_of_at id old q ≡ true → (is_of_at id old nodes.vacant_key ≡ true) × (q ≤ nodes.vacant_key)
    pub same : ((q : ℕ) → q < k → is_of_at id old q ≡ true → ⊥) → nodes.vacant_key ≡ old.vacant_key

  pub owned_first : AreTied old were → IsTakingOwned 0 old were before
  owned_first t = record {
    tied = t;
    taken = record { gone = λ n h. absurd (omega (arith, h.0)); others = λ n. inl refl; less = λ e h. h; taken = λ e h. inl h };
    marks = λ q _. refl;
    highest = λ q small _. absurd (omega (arith, small));
    same = λ _. refl;
  }

  module _ (k : ℕ) (nodes : Slab Node) (edges : Edges) (lost : Lost) (t : IsTakingOwned k nodes edges lost) where
    -- a node that was not taken is as it was
    as_before : (q : ℕ) → ((q < k) × (is_of_at id old q ≡ true) → ⊥) → is_of_at id nodes q ≡ is_of_at id old q
    as_before q stays = split (t.taken.others (record { 0 = q })) where
      split : (option_map node_of (get nodes q) ≡ option_map node_of (get old q)) ⊎ ((get nodes q ≡ None) × ((q < k) × (is_of_at id old q ≡ true))) → is_of_at id nodes q ≡ is_of_at id old q
      split (inl same) = ap (is_of id) same
      split (inr both) = absurd (stays both.1)

    of_before : (n : NodeId) → is_of_at id nodes n.0 ≡ true → is_of_at id old n.0 ≡ true
    of_before n is = split (t.taken.others n) where
      split : (option_map node_of (get nodes n.0) ≡ option_map node_of (get old n.0)) ⊎ ((get nodes n.0 ≡ None) × Below k n) → is_of_at id old n.0 ≡ true
      split (inl same) = ap (is_of id) (sym same) ∙ is
      split (inr both) = both.1.1

    more : (n : NodeId) → Below k n → Below (suc k) n
    more n h = (let small = h.0 in omega (arith, small), h.1)

    module _ (now : Slab Node) (less : Edges) (after : Lost) (step : AreTaken (λ n. (n.0 ≡ k) × (is_of_at id nodes n.0 ≡ true)) nodes edges now less) (tied : AreTied now less)
        (marks : (q : ℕ) → is_of_at id nodes q ≡ false → is_again after q ≡ is_again lost q) (next : now.vacant_key ≡ cond (is_of_at id nodes k) k nodes.vacant_key) where
      alone : (n : NodeId) → (n.0 ≡ k) × (is_of_at id nodes n.0 ≡ true) → Below (suc k) n
      alone n h = (let at = h.0 in omega (arith, at), of_before n h.1)

      here_is : is_of_at id nodes k ≡ is_of_at id old k
      here_is = as_before k (λ h. let small = h.0 in omega (arith, small))

      taken_more : AreTaken (Below (suc k)) old were now less
      taken_more = record {
        gone = λ n h. by_eq n.0 k
            (λ at. step.gone n (at, ap (is_of_at id nodes) at ∙ here_is ∙ ap (is_of_at id old) (sym at) ∙ h.1))
            (λ differ. let small = h.0 in gone n (t.taken.gone n (omega (arith, small, differ), h.1)) (step.others n));
        others = λ n. others n (t.taken.others n) (step.others n);
        less = λ e h. t.taken.less e (step.less e h);
        taken = λ e h. taken e (t.taken.taken e h);
      } where
        gone : (n : NodeId) → get nodes n.0 ≡ None → (option_map node_of (get now n.0) ≡ option_map node_of (get nodes n.0)) ⊎ ((get now n.0 ≡ None) × ((n.0 ≡ k) × (is_of_at id nodes n.0 ≡ true))) → get now n.0 ≡ None
        gone n was (inl same) = still_none (get now n.0) (get nodes n.0) same was
        gone n was (inr both) = both.0

        others : (n : NodeId) → (option_map node_of (get nodes n.0) ≡ option_map node_of (get old n.0)) ⊎ ((get nodes n.0 ≡ None) × Below k n) → (option_map node_of (get now n.0) ≡ option_map node_of (get nodes n.0)) ⊎ ((get now n.0 ≡ None) × ((n.0 ≡ k) × (is_of_at id nodes n.0 ≡ true)))
            → (option_map node_of (get now n.0) ≡ option_map node_of (get old n.0)) ⊎ ((get now n.0 ≡ None) × Below (suc k) n)
        others n (inl same) (inl still) = inl (still ∙ same)
        others n (inr both) (inl still) = inr (still_none (get now n.0) (get nodes n.0) still both.0, more n both.1)
        others n _ (inr both) = inr (both.0, alone n both.1)

        onward : (e : Edge) → IsIn less e ⊎ (((e.source).0 ≡ k) × (is_of_at id nodes (e.source).0 ≡ true) ⊎ ((e.target).0 ≡ k) × (is_of_at id nodes (e.target).0 ≡ true)) → IsIn less e ⊎ (Below (suc k) e.source ⊎ Below (suc k) e.target)
        onward e (inl still) = inl still
        onward e (inr (inl from)) = inr (inl (alone e.source from))
        onward e (inr (inr to)) = inr (inr (alone e.target to))

        taken : (e : Edge) → IsIn edges e ⊎ (Below k e.source ⊎ Below k e.target) → IsIn less e ⊎ (Below (suc k) e.source ⊎ Below (suc k) e.target)
        taken e (inl still) = onward e (step.taken e still)
        taken e (inr (inl from)) = inr (inl (more e.source from))
        taken e (inr (inr to)) = inr (inr (more e.target to))

      pub owned_more : IsTakingOwned (suc k) now less after
      owned_more = record {
        tied = tied;
        taken = taken_more;
        marks = λ q other. marks q (as_before q (λ h. clash (is_of_at id old q) h.1 other) ∙ other) ∙ t.marks q other;
        highest = λ q small is. highest q small is (is_of_at id nodes k) refl next;
        same = λ none. same none (is_of_at id nodes k) refl next;
      } where
        highest : (q : ℕ) → q < suc k → is_of_at id old q ≡ true → (b : Bool) → is_of_at id nodes k ≡ b → now.vacant_key ≡ cond b k nodes.vacant_key → (is_of_at id old now.vacant_key ≡ true) × (q ≤ now.vacant_key)
        highest q small is true here at = (ap (is_of_at id old) at ∙ sym here_is ∙ here, omega (arith, small, at))
        highest q small is false here at = by_eq q k
            (λ same. absurd (clash (is_of_at id old q) is (ap (is_of_at id old) same ∙ sym here_is ∙ here)))
            (λ differ. let h = t.highest q (omega (arith, small, differ)) is in (ap (is_of_at id old) at ∙ h.0, subst (λ m. q ≤ m) (sym at) h.1))

        same : ((q : ℕ) → q < suc k → is_of_at id old q ≡ true → ⊥) → (b : Bool) → is_of_at id nodes k ≡ b → now.vacant_key ≡ cond b k nodes.vacant_key → now.vacant_key ≡ old.vacant_key
        same none true here at = absurd (none k (omega arith) (sym here_is ∙ here))
        same none false here at = at ∙ t.same (λ q small is. none q (omega (arith, small)) is)

  -- all are taken
  module _ (k : ℕ) (nodes : Slab Node) (edges : Edges) (lost : Lost) (t : IsTakingOwned k nodes edges lost) (all : length old.slots ≤ k) where
    small : (q : ℕ) → is_of_at id old q ≡ true → q < k
    small q is = let below = within old.slots q (of_there id old q is) in omega (arith, below, all)

    pub all_taken : AreTaken (λ n. is_of_at id old n.0 ≡ true) old were nodes edges
    all_taken = record {
      gone = λ n is. t.taken.gone n (small n.0 is, is);
      others = λ n. others n (t.taken.others n);
      less = t.taken.less;
      taken = λ e h. taken e (t.taken.taken e h);
    } where
      others : (n : NodeId) → (option_map node_of (get nodes n.0) ≡ option_map node_of (get old n.0)) ⊎ ((get nodes n.0 ≡ None) × Below k n) → (option_map node_of (get nodes n.0) ≡ option_map node_of (get old n.0)) ⊎ ((get nodes n.0 ≡ None) × (is_of_at id old n.0 ≡ true))
      others n (inl same) = inl same
      others n (inr both) = inr (both.0, both.1.1)

      taken : (e : Edge) → IsIn edges e ⊎ (Below k e.source ⊎ Below k e.target) → IsIn edges e ⊎ ((is_of_at id old (e.source).0 ≡ true) ⊎ (is_of_at id old (e.target).0 ≡ true))
      taken e (inl still) = inl still
      taken e (inr (inl from)) = inr (inl from.1)
      taken e (inr (inr to)) = inr (inr to.1)

    pub all_highest : (q : ℕ) → is_of_at id old q ≡ true → (is_of_at id old nodes.vacant_key ≡ true) × (q ≤ nodes.vacant_key)
    all_highest q is = t.highest q (small q is) is

    pub all_same : ((q : ℕ) → is_of_at id old q ≡ true → ⊥) → nodes.vacant_key ≡ old.vacant_key
    all_same none = t.same (λ q _ is. none q is)
