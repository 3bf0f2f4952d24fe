-- The nodes to which edges lead, in sets and in lists, and that cycles of edges are those of steps between numbers.
use Rattle.std.proofs.Common.{◌≡◌, ℕ, ◌+◌, ◌<◌, true, List, [], ◌∷◌, ◌++◌, length, ap, sym, ◌∙◌, subst, ◌⊎◌, inl, inr, arith}
use Rattle.std.specs.Prelude.{◌↔◌}
use Rattle.std.specs.BTreeSet.{BTreeSet}
use Rattle.std.specs.FinSet as set
use Rattle.std.proofs.lemmas.Bool.{cases_eq}
use Rattle.std.proofs.lemmas.List.Elements.{Contains-append_left, Contains-push, Contains-push_cases}
use Rattle.wac_edges.specs.declared.edges.Edge.{Edge}
use Rattle.wac_edges.specs.declared.node.NodeId.{NodeId}
use Rattle.wac_edges.specs.declared.edges.End.TheVariants.{Outgoing}
use Rattle.wac_edges.specs.Edge.{node_number}
use Rattle.wac_edges.specs.cycles.Cycles.{IsStep, AreWithin, LeadsBack, HasNoCycle, HasLowestOnCycle, Path, step, further}
use Rattle.wac_edges.specs.Order.{Edges, IsEdge, Leads, IsOnCycle, IsAcyclic, IsLowestOnCycle}
use Rattle.wac_edges.specs.Ends.{AreAt}
use Rattle.wac_edges.specs.private.Targets.{LeadsTo}
use Rattle.wac_edges.proofs.ReachLemmas.{cycle_target}

-- no step leads from no edge
pub leads_none : (b : NodeId) → LeadsTo [] b → ⊥
leads_none b (e, (k, within, _), _) = let wrong : k < 0 = within in omega arith

pub step_none : (S A L : Type 0) → (L → ⊥) → S ↔ (S ⊎ (A × L))
step_none S A L none = (λ s. inl s, from) where
  from : S ⊎ (A × L) → S
  from (inl s) = s
  from (inr (_, l)) = absurd (none l)

pub step_more : (S C N A L M E : Type 0) → C ↔ (S ⊎ (A × L)) → N ↔ (C ⊎ (A × E)) → M ↔ (L ⊎ E) → N ↔ (S ⊎ (A × M))
step_more S C N A L M E was next more = (λ n. to (next.0 n), λ s. next.1 (from s)) where
  old : S ⊎ (A × L) → S ⊎ (A × M)
  old (inl s) = inl s
  old (inr (a, l)) = inr (a, more.1 (inl l))

  to : C ⊎ (A × E) → S ⊎ (A × M)
  to (inl c) = old (was.0 c)
  to (inr (a, e)) = inr (a, more.1 (inr e))

  which : A → L ⊎ E → C ⊎ (A × E)
  which a (inl l) = inl (was.1 (inr (a, l)))
  which a (inr e) = inr (a, e)

  from : S ⊎ (A × M) → C ⊎ (A × E)
  from (inl s) = inl (was.1 (inl s))
  from (inr (a, m)) = which a (more.0 m)

pub next_row : (P : ℕ → Type 0) (n a : ℕ) (C N : Type 0) → C ↔ ((n < a) × P n) → N ↔ (C ⊎ ((n ≡ a) × P a)) → N ↔ ((n < a + 1) × P n)
next_row P n a C N was next = (λ x. to (next.0 x), λ p. next.1 (from (cases_eq n a) p)) where
  to : C ⊎ ((n ≡ a) × P a) → (n < a + 1) × P n
  to (inl c) = let (low, p) = was.0 c in (omega (arith, low), p)
  to (inr (same, p)) = (omega (arith, same), subst P (sym same) p)

  from : (n ≡ a) ⊎ (n ≡ a → ⊥) → (n < a + 1) × P n → C ⊎ ((n ≡ a) × P a)
  from (inl same) (_, p) = inr (same, subst P same p)
  from (inr other) (low, p) = inl (was.1 (omega arith, p))

pub leads_push : (given : List Edge) (e : Edge) (b : ℕ) → LeadsTo (given ++ e ∷ []) (node_number b) ↔ (LeadsTo given (node_number b) ⊎ (b ≡ e.target.0))
leads_push given e b = (to, from) where
  to : LeadsTo (given ++ e ∷ []) (node_number b) → LeadsTo given (node_number b) ⊎ (b ≡ e.target.0)
  to (x, there, leads) = elim (Contains-push_cases given e x there) [
    | inl w ↦ inl (x, w, leads)
    | inr same ↦ inr (sym (ap (λ (n : NodeId). n.0) leads) ∙ ap (λ (y : Edge). y.target.0) (sym same))
  ]

  from : LeadsTo given (node_number b) ⊎ (b ≡ e.target.0) → LeadsTo (given ++ e ∷ []) (node_number b)
  from (inl (x, w, leads)) = (x, Contains-append_left given (e ∷ []) x w, leads)
  from (inr same) = (e, Contains-push given e, ap node_number (sym same))

-- the edges out of a node lead where its edges in the set do
pub leads_at : (edges : Edges) (a : NodeId) (es : List Edge) → AreAt edges a Outgoing es → (b : NodeId) → LeadsTo es b ↔ IsEdge edges a b
leads_at edges a es at b = (to, from) where
  to : LeadsTo es b → IsEdge edges a b
  to (e, w, leads) = let (has, source) = (at.all e).0 w in (e, has, source, leads)

  from : IsEdge edges a b → LeadsTo es b
  from (e, has, source, leads) = (e, (at.all e).1 (has, source), leads)

pub step_as : (N C A L E : Type 0) → N ↔ (C ⊎ (A × L)) → L ↔ E → N ↔ (C ⊎ (A × E))
step_as N C A L E next same = (λ n. to (next.0 n), λ s. next.1 (from s)) where
  to : C ⊎ (A × L) → C ⊎ (A × E)
  to (inl c) = inl c
  to (inr (a, l)) = inr (a, same.0 l)

  from : C ⊎ (A × E) → C ⊎ (A × L)
  from (inl c) = inl c
  from (inr (a, e)) = inr (a, same.1 e)

module _ (edges : Edges) (nodes : ℕ) (sets : List (BTreeSet ℕ)) (ends : (e : Edge) → set.contains edges e ≡ true → e.target.0 < nodes) (counted : length sets ≡ nodes) (steps : (a b : ℕ) → IsStep sets a b ↔ ((a < nodes) × IsEdge edges (node_number a) (node_number b))) where
  target_low : (a b : NodeId) → IsEdge edges a b → b.0 < nodes
  target_low a b (e, stands, _, to) = let low = ends e stands in omega (arith, low, ap (λ (n : NodeId). n.0) to)

  pub within : AreWithin sets
  within a b s = let low = target_low (node_number a) (node_number b) ((steps a b).0 s).1 in omega (arith, low, counted)

  to_edges : (a b : ℕ) → Path (IsStep sets) a b → (ns : List NodeId) × Leads edges (node_number a) ns (node_number b)
  to_edges a b (step x y s) = ([], ((steps x y).0 s).1)
  to_edges a b (further x y z s p) = let (ns, leads) = to_edges y z p in (node_number y ∷ ns, (((steps x y).0 s).1, leads))

  to_steps : (ns : List NodeId) (a b : NodeId) → a.0 < nodes → Leads edges a ns b → Path (IsStep sets) a.0 b.0
  to_steps [] a b low one = step a.0 b.0 ((steps a.0 b.0).1 (low, one))
  to_steps (c ∷ cs) a b low (one, rest) = further a.0 c.0 b.0 ((steps a.0 c.0).1 (low, one)) (to_steps cs c b (target_low a c one) rest)

  leads_back : (n : NodeId) → IsOnCycle edges n → LeadsBack sets n.0
  leads_back n on =
      let (e, stands, to) = cycle_target edges n on in
      let low = ends e stands in
      to_steps on.0 n n (omega (arith, low, ap (λ (k : NodeId). k.0) to)) on.1

  -- cycles of edges are those of the steps between their nodes
  pub acyclic : HasNoCycle sets → IsAcyclic edges
  acyclic none n on = none n.0 (leads_back n on)

  pub lowest_of : (n : ℕ) → HasLowestOnCycle sets n → IsLowestOnCycle edges (node_number n)
  lowest_of n found = record { here = to_edges n n found.on; lowest = λ m on. found.lowest m.0 (leads_back m on) }
