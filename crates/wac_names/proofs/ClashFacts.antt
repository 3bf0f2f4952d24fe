-- Two texts clash where their kinds do.
use Rattle.std.proofs.Common.{◌≡◌, ℕ, List, Some, None, Bool, true, refl, sym, ◌∙◌, subst, ◌⊎◌}
use Rattle.wac_names.specs.Clash.{Clash, IsItsConstructor, KindsClash, lowered, plain}
use Rattle.wac_names.specs.Grammar.{HasKind}
use Rattle.wac_names.specs.Kind.{Kind, joined}
use Rattle.wac_names.proofs.NameFacts.{decided}
use Rattle.wac_names.proofs.ReadFacts.{Iff}

clash-kinds : (s t : List ℕ) (j k : Kind) → HasKind s j → HasKind t k → Clash s t → KindsClash j k
clash-kinds s t j k h g c =
    let e = (decided s).one_kind c.one j c.of_one h in
    let f = (decided t).one_kind c.other k c.of_other g in
    subst (λ (x : Kind). KindsClash j x) f (subst (λ (x : Kind). KindsClash x c.other) e c.clash)

kinds-clash : (s t : List ℕ) (j k : Kind) → HasKind s j → HasKind t k → KindsClash j k → Clash s t
kinds-clash s t j k h g c = record { one = j; other = k; of_one = h; of_other = g; clash = c }

left_other : (j k : Kind) → plain j ≡ None → KindsClash j k ≡ (joined j ≡ joined k)
left_other j k e = rw e refl

right_other : (x : List ℕ) (j k : Kind) → plain j ≡ Some x → plain k ≡ None → KindsClash j k ≡ (joined j ≡ joined k)
right_other x j k e f = rw (e, f) refl

both_plain : (x y : List ℕ) (j k : Kind) → plain j ≡ Some x → plain k ≡ Some y
    → KindsClash j k ≡ ((lowered x ≡ lowered y) × ¬ (IsItsConstructor j k ⊎ IsItsConstructor k j))
both_plain x y j k e f = rw (e, f) refl

by_kinds : (b : Bool) (s t : List ℕ) (j k : Kind) (P : Type 0) → HasKind s j → HasKind t k → KindsClash j k ≡ P → Iff (b ≡ true) P → Iff (b ≡ true) (Clash s t)
by_kinds b s t j k P h g e i = (
  λ z. kinds-clash s t j k h g (subst (λ (X : Type 0). X) (sym e) (i.0 z)),
  λ c. i.1 (subst (λ (X : Type 0). X) e (clash-kinds s t j k h g c)),
)

-- the answer of two names that aren't both plain, from their texts
by_texts : (b : Bool) (s t x y : List ℕ) (j k : Kind) → HasKind s j → HasKind t k → x ≡ s → y ≡ t → Iff (b ≡ true) (x ≡ y) → Iff (b ≡ true) (joined j ≡ joined k)
by_texts b s t x y j k h g e f i = (λ z. h.makes ∙ (sym e ∙ (i.0 z ∙ (f ∙ sym g.makes))), λ d. i.1 (e ∙ (sym h.makes ∙ (d ∙ (g.makes ∙ sym f)))))

pub clash-left_other : (b : Bool) (s t x y : List ℕ) (j k : Kind) → HasKind s j → HasKind t k → None ≡ plain j → x ≡ s → y ≡ t → Iff (b ≡ true) (x ≡ y) → Iff (b ≡ true) (Clash s t)
clash-left_other b s t x y j k h g p e f i = by_kinds b s t j k (joined j ≡ joined k) h g (left_other j k (sym p)) (by_texts b s t x y j k h g e f i)

pub clash-right_other : (b : Bool) (s t x y u : List ℕ) (j k : Kind) → HasKind s j → HasKind t k → Some u ≡ plain j → None ≡ plain k → x ≡ s → y ≡ t → Iff (b ≡ true) (x ≡ y)
    → Iff (b ≡ true) (Clash s t)
clash-right_other b s t x y u j k h g p q e f i = by_kinds b s t j k (joined j ≡ joined k) h g (right_other u j k (sym p) (sym q)) (by_texts b s t x y j k h g e f i)

-- the answer of two plain names
pub clash-both_plain : (b : Bool) (s t x y : List ℕ) (j k : Kind) → HasKind s j → HasKind t k → Some x ≡ plain j → Some y ≡ plain k
    → Iff (b ≡ true) ((lowered x ≡ lowered y) × ¬ (IsItsConstructor j k ⊎ IsItsConstructor k j)) → Iff (b ≡ true) (Clash s t)
clash-both_plain b s t x y j k h g p q i = by_kinds b s t j k _ h g (both_plain x y j k (sym p) (sym q)) i
