-- Steps between numbers, as they are added.
use Rattle.std.proofs.Common.{◌≡◌, ℕ, zero, suc, List, [], ◌∷◌, ◌++◌, sym, subst}
use Rattle.std.specs.BTreeSet.{BTreeSet}
use Rattle.wac_edges.specs.cycles.Cycles.{IsStep}
use Rattle.wac_edges.specs.private.cycles.Numbers.{Has}

pub has_none : (ks : List ℕ) (q : ℕ) → ks ≡ [] → Has ks q → ⊥
has_none ks q none h = let wrong : Has [] q = subst (λ (l : List ℕ). Has l q) none h in cc

-- an empty set more
pub empty_push : (sets : List (BTreeSet ℕ)) (s : BTreeSet ℕ) → s.keys ≡ [] → ((a b : ℕ) → IsStep sets a b → ⊥) → (a b : ℕ) → IsStep (sets ++ s ∷ []) a b → ⊥
empty_push [] s none h zero b (t, at, has) = let same : s ≡ t = cc in has_none s.keys b none (subst (λ (x : BTreeSet ℕ). Has x.keys b) (sym same) has)
empty_push [] s none h (suc a) b (t, at, has) = cc
empty_push (x ∷ sets) s none h zero b l = h zero b l
empty_push (x ∷ sets) s none h (suc a) b l = empty_push sets s none (λ i j m. h (suc i) j m) a b l
