use Rattle.std.proofs.Common.{◌≡◌, ℕ, zero, suc, ◌<◌, ◌≤◌, Bool, true, false, ◌||◌, List, [], ◌∷◌, length, refl, ap, ◌∙◌, sym, arith, eqb, ◌⊎◌, inl, inr}
use Rattle.std.specs.List.{list_any, IsDistinct, AllByRecursion}
use Rattle.std.proofs.lemmas.Bool.{eqb-true}
use Rattle.std.proofs.lemmas.Map.Steps.{length-le_from_distinct_below}
use Rattle.wac_edges.specs.declared.node.NodeId.{NodeId}
use Rattle.wac_edges.specs.Edge.{is_left, node_number}
use Rattle.wac_edges.specs.Order.{Edges, IsEdge, Leads, IsOnCycle, IsStuck}
use Rattle.wac_edges.specs.private.Ready.{is_set}

-- each node of the list has an edge to the next, and all are left
abbrev Chain : Edges → List Bool → ℕ → List ℕ → Type 0
Chain edges left a [] = is_set left a ≡ true
Chain edges left a (b ∷ bs) = (is_set left a ≡ true) × IsEdge edges (node_number a) (node_number b) × Chain edges left b bs

back : (edges : Edges) (left : List Bool) → IsStuck edges (is_left left) → (k n : ℕ) → is_set left n ≡ true → (a : ℕ) × (bs : List ℕ) × Chain edges left a bs × (length bs ≡ k)
back edges left stuck zero n is = (n, [], is, refl)
back edges left stuck (suc k) n is =
    let (a, bs, chain, long) = back edges left stuck k n is in
    let (e, stands, leads, also) = stuck (node_number a) (first a bs chain) in
    (e.source.0, a ∷ bs, (also, (e, stands, refl, leads), chain), ap suc long) where
      first : (a : ℕ) (bs : List ℕ) → Chain edges left a bs → is_set left a ≡ true
      first a [] h = h
      first a (b ∷ bs) h = h.0

reach : (edges : Edges) (left : List Bool) (a x : ℕ) (bs : List ℕ) → Chain edges left a bs → list_any (eqb x) bs ≡ true → (ns : List NodeId) × Leads edges (node_number a) ns (node_number x)
reach edges left a x [] chain h = cc
reach edges left a x (b ∷ bs) chain h =
    elim (eqb x b) as (λ t. eqb x b ≡ t → (t || list_any (eqb x) bs) ≡ true → (ns : List NodeId) × Leads edges (node_number a) ns (node_number x)) [
      | true ↦ λ same _. let is : b ≡ x = sym (eqb-true x b same) in ([], rw is at chain.1)
      | false ↦ λ _ rest. let (ns, leads) = reach edges left b x bs chain.2 rest in (node_number b ∷ ns, (chain.1, leads))
    ] refl h

or_first : (a b : Bool) → (a || b) ≡ false → a ≡ false
or_first true b h = h
or_first false b h = refl

or_second : (a b : Bool) → (a || b) ≡ false → b ≡ false
or_second true b h = cc
or_second false b h = h

repeats : (edges : Edges) (left : List Bool) (a : ℕ) (bs : List ℕ) → Chain edges left a bs → IsDistinct eqb (a ∷ bs) ⊎ ((n : NodeId) × IsOnCycle edges n)
unfolding IsDistinct
repeats edges left a [] chain = inl (tt, tt)
repeats edges left a (b ∷ bs) chain =
    elim (list_any (eqb a) (b ∷ bs)) as (λ t. list_any (eqb a) (b ∷ bs) ≡ t → IsDistinct eqb (a ∷ b ∷ bs) ⊎ ((n : NodeId) × IsOnCycle edges n)) [
      | true ↦ λ again. inr (node_number a, reach edges left a a (b ∷ bs) chain again)
      | false ↦ λ new. further (repeats edges left b bs chain.2) (none (b ∷ bs) new)
    ] refl where
      none : (xs : List ℕ) → list_any (eqb a) xs ≡ false → AllByRecursion (λ y. eqb a y ≡ false) xs
      none [] h = tt
      none (x ∷ xs) h = (or_first (eqb a x) (list_any (eqb a) xs) h, none xs (or_second (eqb a x) (list_any (eqb a) xs) h))

      further : IsDistinct eqb (b ∷ bs) ⊎ ((n : NodeId) × IsOnCycle edges n) → AllByRecursion (λ y. eqb a y ≡ false) (b ∷ bs) → IsDistinct eqb (a ∷ b ∷ bs) ⊎ ((n : NodeId) × IsOnCycle edges n)
      further (inl d) new = inl (new, d)
      further (inr c) new = inr c

at_head : (left : List Bool) (a q : ℕ) (b : Bool) → (eqb q a || b) ≡ true → is_set left a ≡ true → (b ≡ true → is_set left q ≡ true) → is_set left q ≡ true
at_head left a q b h is rest = elim (eqb q a) as (λ t. eqb q a ≡ t → (t || b) ≡ true → is_set left q ≡ true) [
  | true ↦ λ same _. ap (λ k. is_set left k) (eqb-true q a same) ∙ is
  | false ↦ λ _ other. rest other
] refl h

all_left : (edges : Edges) (left : List Bool) (a : ℕ) (bs : List ℕ) → Chain edges left a bs → (q : ℕ) → list_any (eqb q) (a ∷ bs) ≡ true → is_set left q ≡ true
all_left edges left a [] chain q h = at_head left a q false h chain (λ other. cc)
all_left edges left a (b ∷ bs) chain q h = at_head left a q (list_any (eqb q) (b ∷ bs)) h chain.0 (λ other. all_left edges left b bs chain.2 q other)

pub within : (left : List Bool) (q : ℕ) → is_set left q ≡ true → q < length left
within [] q h = cc
within (b ∷ left) zero h = omega arith
within (b ∷ left) (suc q) h = let r = within left q h in omega arith

-- where nodes are left and none is ready, the edges form a cycle
pub stuck_cycle : (edges : Edges) (left : List Bool) → IsStuck edges (is_left left) → (m : NodeId) → is_left left m ≡ true → (n : NodeId) × IsOnCycle edges n
stuck_cycle edges left stuck m is =
    let (a, bs, chain, long) = back edges left stuck (length left) m.0 is in
    pick a bs chain long (repeats edges left a bs chain) where
      pick : (a : ℕ) (bs : List ℕ) → Chain edges left a bs → length bs ≡ length left → IsDistinct eqb (a ∷ bs) ⊎ ((n : NodeId) × IsOnCycle edges n) → (n : NodeId) × IsOnCycle edges n
      pick a bs chain long (inr c) = c
      pick a bs chain long (inl d) =
          let short : length (a ∷ bs) ≤ length left = length-le_from_distinct_below (a ∷ bs) (length left) d (λ q h. within left q (all_left edges left a bs chain q h)) in
          absurd (omega arith)
