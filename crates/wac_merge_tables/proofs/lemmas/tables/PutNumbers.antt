-- Numbers of this round and of those before.
use Rattle.std.proofs.Common.{◌≡◌, ℕ, zero, suc, ◌+◌, ◌<◌, ◌≤◌, true, false, cond, nat_eq, List, [], ◌∷◌, ◌++◌, inl, inr, length, map, replicate, take, Option, Some, None, refl, ap, sym, ◌∙◌, arith, eq-eqb}
use Rattle.std.specs.Prelude.{slice_get}
use Rattle.std.proofs.Math.ListN.{set}
use Rattle.std.proofs.lemmas.Bool.{cases_Bool, eqb-true}
use Rattle.wac_types_shapes.specs.primitives.Name.{option_case}
use Rattle.wac_merge_tables.specs.declared.tables.rounds.Put.{Put}
use Rattle.wac_merge_tables.specs.private.tables.Numbers.{number_at, number_in, IsTimely}

at_map : (v : Put → Option ℕ) (puts : List Put) (k : ℕ) → number_at (map v puts) k ≡ option_case (slice_get puts k) None v
at_map v [] k = refl
at_map v (p ∷ puts) zero = refl
at_map v (p ∷ puts) (suc k) = at_map v puts k

pub map_length : (v : Put → Option ℕ) (puts : List Put) → length (map v puts) ≡ length puts
map_length v [] = refl
map_length v (p ∷ puts) = ap suc (map_length v puts)

apart : (a b : ℕ) → (a ≡ b → ⊥) → nat_eq a b ≡ false
apart a b not = elim (cases_Bool (nat_eq a b)) [
  | inl t ↦ absurd (not (eqb-true a b t))
  | inr f ↦ f
]

-- ---- a new round
pub none_next : (puts : List Put) (round : ℕ) → IsTimely puts round → (k : ℕ) → number_at (map (number_in (round + 1)) puts) k ≡ None
none_next puts round h k = at_map (number_in (round + 1)) puts k ∙ go (slice_get puts k) refl where
  go : (o : Option Put) → slice_get puts k ≡ o → option_case o None (number_in (round + 1)) ≡ None
  go None is = refl
  go (Some p) is = let low = h.past k p is in ap (λ b. cond b (Some p.number) None) (apart p.round (round + 1) (λ e. omega (arith, low, e)))

-- ---- more room
none_of : (v : Put → Option ℕ) (z : Put) → v z ≡ None → (m k : ℕ) → number_at (map v (replicate m z)) k ≡ None
none_of v z is zero k = refl
none_of v z is (suc m) zero = is
none_of v z is (suc m) (suc k) = none_of v z is m k

behind : (v : Put → Option ℕ) (z : Put) → v z ≡ None → (puts : List Put) (m k : ℕ) → number_at (map v (puts ++ replicate m z)) k ≡ number_at (map v puts) k
behind v z is [] m k = none_of v z is m k
behind v z is (p ∷ puts) m zero = refl
behind v z is (p ∷ puts) m (suc k) = behind v z is puts m k

taken : (puts : List Put) (n : ℕ) → length puts ≤ n → take n puts ≡ puts
taken [] zero h = refl
taken [] (suc n) h = refl
taken (p ∷ puts) zero h = absurd (omega (arith, h))
taken (p ∷ puts) (suc n) h = ap (λ l. p ∷ l) (taken puts n (omega (arith, h)))

module _ (round : ℕ) (old new : List Put) (n m : ℕ) (z : Put) (first : z.round ≡ 0) (long : length old ≤ n) (is : new ≡ take n old ++ replicate m z) where
  grew : new ≡ old ++ replicate m z
  grew = is ∙ ap (λ l. l ++ replicate m z) (taken old n long)

  pub same_room : 0 < round → (k : ℕ) → number_at (map (number_in round) new) k ≡ number_at (map (number_in round) old) k
  same_room begun k =
      ap (λ l. number_at (map (number_in round) l) k) grew
      ∙ behind (number_in round) z (ap (λ b. cond b (Some z.number) None) (apart z.round round (λ e. omega (arith, e, first, begun)))) old m k

-- ---- a number is put
suc_same : (i k : ℕ) → nat_eq (suc i) (suc k) ≡ nat_eq i k
suc_same i k = elim (cases_Bool (nat_eq i k)) [
  | inl t ↦ eq-eqb (suc i) (suc k) (ap suc (eqb-true i k t)) ∙ sym t
  | inr f ↦ apart (suc i) (suc k) (λ e. let same : i ≡ k = omega (arith, e) in true_false (sym (eq-eqb i k same) ∙ f)) ∙ sym f
] where
  true_false : true ≡ false → ⊥
  true_false e = cc

at_set : (v : Put → Option ℕ) (puts : List Put) (i k : ℕ) (p : Put) → i < length puts → number_at (map v (set puts i p)) k ≡ cond (nat_eq i k) (v p) (number_at (map v puts) k)
at_set v [] i k p h = absurd (omega (arith, h))
at_set v (q ∷ puts) zero zero p h = refl
at_set v (q ∷ puts) zero (suc k) p h = sym (ap (λ b. cond b (v p) (number_at (map v puts) k)) (apart 0 (suc k) (λ e. omega (arith, e))))
at_set v (q ∷ puts) (suc i) zero p h = sym (ap (λ b. cond b (v p) (v q)) (apart (suc i) 0 (λ e. omega (arith, e))))
at_set v (q ∷ puts) (suc i) (suc k) p h = at_set v puts i k p (omega (arith, h)) ∙ sym (ap (λ b. cond b (v p) (number_at (map v puts) k)) (suc_same i k))

module _ (round : ℕ) (puts : List Put) (i : ℕ) (p : Put) (now : p.round ≡ round) where
  pub put_at : i < length puts → (k : ℕ) → number_at (map (number_in round) (set puts i p)) k ≡ cond (nat_eq i k) (Some p.number) (number_at (map (number_in round) puts) k)
  put_at within k = at_set (number_in round) puts i k p within ∙ ap (λ o. cond (nat_eq i k) o (number_at (map (number_in round) puts) k)) (ap (λ b. cond b (Some p.number) None) (eq-eqb p.round round now))
