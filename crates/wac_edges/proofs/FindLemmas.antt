-- What is known while the record of an edge is looked for.
use Rattle.std.proofs.Common.{◌≡◌, ℕ, List, [], ◌∷◌, Contains, Some, sym, ap, subst, inl, inr, refl, arith}
use Rattle.slab.proofs.SlabLemmas.{Contains-cons, Contains-cons_cases}
use Rattle.wac_edges.specs.declared.edges.Edge.{Edge}
use Rattle.wac_edges.specs.private.Records.{Table, edge_at}

-- these are keys with their edges, and each key of the edge is among them
pub record AreLeft (t : Table) (edge : Edge) (xs : List (ℕ × Edge)) : Type 0 where
  pub sound : (x : ℕ × Edge) → Contains xs x → edge_at t x.0 ≡ Some x.1
  pub rest : (k : ℕ) → edge_at t k ≡ Some edge → Contains xs (k, edge)

pub left_head : (t : Table) (edge : Edge) (x : ℕ × Edge) (xs ys : List (ℕ × Edge)) → ys ≡ x ∷ xs → AreLeft t edge ys → edge_at t x.0 ≡ Some x.1
left_head t edge x xs ys is a = a.sound x (subst (λ (l : List (ℕ × Edge)). Contains l x) (sym is) (0, omega arith, refl))

pub left_tail : (t : Table) (edge : Edge) (x : ℕ × Edge) (xs ys : List (ℕ × Edge)) → ys ≡ x ∷ xs → (x.1 ≡ edge → ⊥) → AreLeft t edge ys → AreLeft t edge xs
left_tail t edge x xs ys is other a = record {
  sound = λ y w. a.sound y (subst (λ (l : List (ℕ × Edge)). Contains l y) (sym is) (Contains-cons x y xs w));
  rest = λ k at. elim (Contains-cons_cases x (k, edge) xs (subst (λ (l : List (ℕ × Edge)). Contains l (k, edge)) is (a.rest k at))) [
    | inl same ↦ absurd (other (ap (λ (p : ℕ × Edge). p.1) same))
    | inr w ↦ w
  ];
}

pub left_none : (t : Table) (edge : Edge) (xs : List (ℕ × Edge)) → xs ≡ [] → AreLeft t edge xs → (k : ℕ) → edge_at t k ≡ Some edge → ⊥
left_none t edge xs is a k at = let (i, within, _) = subst (λ (l : List (ℕ × Edge)). Contains l (k, edge)) is (a.rest k at) in omega arith
