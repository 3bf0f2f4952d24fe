-- An order of all nodes leaves no cycle.
use Rattle.std.proofs.Common.{◌≡◌, Bool, true, false, not, ◌||◌, List, [], ◌∷◌, refl, ap, ◌∙◌, sym, ◌⊎◌, inl, inr}
use Rattle.std.specs.FinSet as set
use Rattle.wac_edges.specs.declared.edges.Edge.{Edge}
use Rattle.wac_edges.specs.declared.node.NodeId.{NodeId}
use Rattle.wac_edges.specs.Order.{Edges, Leads, IsOnCycle, IsAcyclic, Writes, without}
use Rattle.wac_edges.proofs.WrittenOrder.{has, same, same-true, same_itself}

clash : (b : Bool) → b ≡ true → b ≡ false → ⊥
clash true _ h = cc
clash false h _ = cc

or_true : (a : Bool) → (a || true) ≡ true
or_true true = refl
or_true false = refl

-- a node on a cycle is one to which an edge leads
pub cycle_target : (edges : Edges) (n : NodeId) → IsOnCycle edges n → (e : Edge) × (set.contains edges e ≡ true) × (e.target ≡ n)
cycle_target edges n (ns, leads) = last ns n leads where
  last : (ks : List NodeId) (a : NodeId) → Leads edges a ks n → (e : Edge) × (set.contains edges e ≡ true) × (e.target ≡ n)
  last [] a (e, stands, _, to) = (e, stands, to)
  last (k ∷ ks) a (_, rest) = last ks k rest

-- each of these nodes has an edge from one of them
abbrev Preceded : Edges → List NodeId → Type 0
Preceded edges xs = (m : NodeId) → has xs m ≡ true → (e : Edge) × (set.contains edges e ≡ true) × (e.target ≡ m) × (has xs e.source ≡ true)

preceded_on : (edges : Edges) (a b : NodeId) (cs : List NodeId) → Leads edges a cs b → (m : NodeId) → (m ≡ b) ⊎ (has cs m ≡ true) → (e : Edge) × (set.contains edges e ≡ true) × (e.target ≡ m) × (has (a ∷ cs) e.source ≡ true)
preceded_on edges a b [] (e, stands, from, to) m (inl is) = (e, stands, to ∙ sym is, rw (from, same_itself a) refl)
preceded_on edges a b [] leads m (inr wrong) = cc
preceded_on edges a b (c ∷ cs) ((e, stands, from, to), leads) m which = split (same m c) refl which (λ w. preceded_on edges c b cs leads m w) where
  further : (k : NodeId) → has (c ∷ cs) k ≡ true → has (a ∷ c ∷ cs) k ≡ true
  further k h = rw h (or_true (same k a))

  split : (t : Bool) → same m c ≡ t → (m ≡ b) ⊎ (has (c ∷ cs) m ≡ true) → ((m ≡ b) ⊎ (has cs m ≡ true) → (x : Edge) × (set.contains edges x ≡ true) × (x.target ≡ m) × (has (c ∷ cs) x.source ≡ true)) → (x : Edge) × (set.contains edges x ≡ true) × (x.target ≡ m) × (has (a ∷ c ∷ cs) x.source ≡ true)
  split true same _ _ = (e, stands, to ∙ sym (same-true m c same), rw (from, same_itself a) refl)
  split false other (inl is) more = let (x, s, t, h) = more (inl is) in (x, s, t, further x.source h)
  split false other (inr within) more = let (x, s, t, h) = more (inr (sym (ap (λ z. z || has cs m) other) ∙ within)) in (x, s, t, further x.source h)

preceded : (edges : Edges) (n : NodeId) (ns : List NodeId) → Leads edges n ns n → Preceded edges (n ∷ ns)
preceded edges n ns leads m h = preceded_on edges n n ns leads m (split (same m n) refl h) where
  split : (b : Bool) → same m n ≡ b → (b || has ns m) ≡ true → (m ≡ n) ⊎ (has ns m ≡ true)
  split true same _ = inl (same-true m n same)
  split false _ rest = inr rest

-- such nodes are never all written
never : (edges : Edges) (xs : List NodeId) (n : NodeId) → has xs n ≡ true → Preceded edges xs → (order : List NodeId) (left : NodeId → Bool) → ((m : NodeId) → has xs m ≡ true → left m ≡ true) → Writes edges left order → ⊥
never edges xs n here pred [] left all done = clash (left n) (all n here) (done n)
never edges xs n here pred (k ∷ order) left all (ready, later) = never edges xs n here pred order (without left k) still later where
  not_here : (b : Bool) → has xs k ≡ b → b ≡ false
  not_here false _ = refl
  not_here true is = let (e, stands, leads, from) = pred k is in absurd (clash (left e.source) (all e.source from) (ready.free e stands leads))

  still : (m : NodeId) → has xs m ≡ true → without left k m ≡ true
  still m is = rw (all m is) (split (same m k) refl) where
    split : (b : Bool) → same m k ≡ b → not b ≡ true
    split true same = absurd (clash (has xs k) (ap (has xs) (sym (same-true m k same)) ∙ is) (not_here (has xs k) refl))
    split false _ = refl

-- where all nodes can be written in an order no edges form a cycle
pub ordered_acyclic : (edges : Edges) (left : NodeId → Bool) (order : List NodeId) → ((e : Edge) → set.contains edges e ≡ true → left e.target ≡ true) → Writes edges left order → IsAcyclic edges
ordered_acyclic edges left order ends writes n (ns, leads) =
    let pred = preceded edges n ns leads in
    never edges (n ∷ ns) n (ap (λ b. b || has ns n) (same_itself n)) pred order left
    (λ m is. let (e, stands, to, _) = pred m is in ap left (sym to) ∙ ends e stands) writes
