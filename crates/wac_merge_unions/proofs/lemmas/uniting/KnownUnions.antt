-- Unions that are known by what they unite.
use Rattle.std.proofs.Common.{arith, Global, ◌≡◌, ◌≢◌, ◌==◌, length, ℕ, zero, suc, Bool, true, false, cond, ◌&&◌, nat_eq, List, [], ◌∷◌, slice_get, Vec, Some, inl, inr, refl, sym, subst}
use Rattle.std.proofs.lemmas.Bool.{cases_Bool, eqb-true, and_parts as both}
use Rattle.std.specs.Cmp.Lexicographic.{pointwise}
use Rattle.std.specs.Map.{lookup_key}
use Rattle.indexmap.specs.IndexMap.{insert_entry}
use Rattle.wac_types_shapes.specs.contracts.shapes.component.InterfaceIdPartialEq.TheImpl as IdEq
use Rattle.wac_types_shapes.specs.declared.shapes.component.InterfaceId.{InterfaceId}
use Rattle.wac_types_shapes.proofs.lemmas.shapes.Names.{key_passes}
use Rattle.wac_types_collection.proofs.lemmas.collection.Growth.{map_all}
use Rattle.wac_merge_classes.specs.declared.terms.parts.Part.{Part}
use Rattle.wac_merge_classes.specs.declared.terms.parts.Union.{Union}
use Rattle.wac_merge_classes.specs.terms.Unions.{IsInner}
use Rattle.wac_merge_unions.specs.private.uniting.UnionSteps.{AreKnown, Extends, KeepsParts}
use Rattle.wac_merge_unions.proofs.lemmas.uniting.UnionLists.{all_at}
use Rattle.wac_merge_unions.proofs.lemmas.uniting.UnionPlaces.{inner_still}

-- ---- `==` tells apart what is united

abbrev Key : Type 0
Key = Vec (ℕ × InterfaceId) Global

abbrev pub pair_eq : ℕ × InterfaceId → ℕ × InterfaceId → Bool
pair_eq p q = nat_eq p.0 q.0 && (IdEq.ghosts).eq p.1 q.1

abbrev pub key_eq : Key → Key → Bool
key_eq x y = pointwise pair_eq x.items y.items

same_pair : (p q : ℕ × InterfaceId) → pair_eq p q ≡ true → p ≡ q
same_pair p q e =
    let h = both (nat_eq p.0 q.0) ((IdEq.ghosts).eq p.1 q.1) e in
    let first = eqb-true p.0 q.0 h.0 in
    let second = eqb-true p.1.0 q.1.0 h.1 in
    (λ t. (first t, record { 0 = second t }))

same_pairs : (xs ys : List (ℕ × InterfaceId)) → pointwise pair_eq xs ys ≡ true → xs ≡ ys
same_pairs [] [] e = refl
same_pairs [] (y ∷ ys) e = cc e
same_pairs (x ∷ xs) [] e = cc e
same_pairs (x ∷ xs) (y ∷ ys) e =
    let h = both (pair_eq x y) (pointwise pair_eq xs ys) e in
    let first = same_pair x y h.0 in
    let rest = same_pairs xs ys h.1 in
    (λ t. first t ∷ rest t)

-- a list that is not of no length is not empty
pub some_pairs : (n : ℕ) (xs : List (ℕ × InterfaceId)) → n ≡ length xs → (n == 0) ≡ false → xs ≢ []
some_pairs zero xs counted e = cc e
some_pairs (suc n) [] counted e = absurd (omega (arith, counted))
some_pairs (suc n) (x ∷ xs) counted e = λ none. cc none

-- ---- what is known

-- it is known still where unions and parts stay
pub known_still : (us vs : List Union) (ps qs : List Part) (u : ℕ) (known : List (Key × ℕ)) → KeepsParts us vs → Extends ps qs → AreKnown us ps u known → AreKnown vs qs u known
known_still us vs ps qs u known keeps more h = map_all (λ e. IsInner us ps u e.0.items (Some e.1)) (λ e. IsInner vs qs u e.0.items (Some e.1)) (λ e k. inner_still us vs ps qs u e.0.items (Some e.1) keeps more k) known h

module _ (us : List Union) (ps : List Part) (u : ℕ) where
  -- the union that is found is that of these interfaces
  pub known_at : (known : List (Key × ℕ)) (is : List (ℕ × InterfaceId)) (k : Key) (v i : ℕ) → lookup_key (λ (x : Key). pointwise pair_eq is x.items) known ≡ Some k → slice_get known i ≡ Some (k, v)
      → AreKnown us ps u known → IsInner us ps u is (Some v)
  known_at known is k v i found at h =
      let same : is ≡ k.items = same_pairs is k.items (key_passes (λ (x : Key). pointwise pair_eq is x.items) known k found) in
      subst (λ (l : List (ℕ × InterfaceId)). IsInner us ps u l (Some v)) (sym same) (all_at (λ e. IsInner us ps u e.0.items (Some e.1)) known i (k, v) h at)

  -- one more is known
  pub known_put : (known : List (Key × ℕ)) (k : Key) (v : ℕ) → IsInner us ps u k.items (Some v) → AreKnown us ps u known → AreKnown us ps u (insert_entry key_eq known k v)
  known_put [] k v new h = (new, tt)
  known_put (e ∷ known) k v new h = elim (cases_Bool (key_eq k e.0)) [
    | inl t ↦
        let same : k.items ≡ e.0.items = same_pairs k.items e.0.items t in
        subst (λ b. AreKnown us ps u (cond b ((e.0, v) ∷ known) (e ∷ insert_entry key_eq known k v))) (sym t) (subst (λ (l : List (ℕ × InterfaceId)). IsInner us ps u l (Some v)) same new, h.1)
    | inr f ↦ subst (λ b. AreKnown us ps u (cond b ((e.0, v) ∷ known) (e ∷ insert_entry key_eq known k v))) (sym f) (h.0, known_put known k v new h.1)
  ]
