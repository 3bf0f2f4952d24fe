-- Clashing names share their key, and of three names that share one two clash.
use Rattle.std.proofs.Common.{◌≡◌, ℕ, ◌∷◌, Option, Some, None, slice_index_or, refl, sym, ap, ◌∙◌, subst, arith, ◌⊎◌, inl, inr}
use Rattle.wac_names.specs.Clash.{BothPlain, Clash, IsItsConstructor, KindsClash, lowered, plain}
use Rattle.wac_names.specs.Grammar.{HasKind}
use Rattle.wac_names.specs.Kind.{Kind, constructor, joined, label}
use Rattle.wac_names.specs.Name.{IsDecided}
use Rattle.wac_names.specs.private.validation.Key.{HasKey, keyed}
use Rattle.wac_names.specs.validation.Valid.{Text}

-- each text has one answer
abbrev pub AreDecided : Type 0
AreDecided = (text : Text) → IsDecided text

-- a text has one key
pub one_key : AreDecided → (text p q : Text) → HasKey text p → HasKey text q → p ≡ q
one_key d text p q a b = sym a.is ∙ (ap (λ (k : Kind). keyed (plain k) text) ((d text).one_kind a.kind b.kind a.named b.named) ∙ b.is)

-- a fact of two plain names or one of any others, by cases
both-cases : (o p : Option Text) (P : Text → Text → Type 0) (Q : Type 0) → BothPlain o p P Q
    → ((x : Text) × (y : Text) × (o ≡ Some x) × (p ≡ Some y) × P x y) ⊎ Q
both-cases (Some x) (Some y) P Q h = inl (x, y, refl, refl, h)
both-cases (Some x) None P Q h = inr h
both-cases None p P Q h = inr h

both-plain : (o p : Option Text) (P : Text → Text → Type 0) (Q : Type 0) (x y : Text) → o ≡ Some x → p ≡ Some y → P x y → BothPlain o p P Q
both-plain o p P Q x y e f h =
    subst (λ (z : Option Text). BothPlain z p P Q) (sym e) (subst (λ (z : Option Text). BothPlain (Some x) z P Q) (sym f) h)

both-other : (o p : Option Text) (P : Text → Text → Type 0) (Q : Type 0) → o ≡ None → Q → BothPlain o p P Q
both-other o p P Q e h = subst (λ (z : Option Text). BothPlain z p P Q) (sym e) h

same_kind-key : AreDecided → (s t : Text) (j k : Kind) → HasKind s j → HasKind t k → joined j ≡ joined k → keyed (plain j) s ≡ keyed (plain k) t
same_kind-key d s t j k a b e =
    let same : s ≡ t = sym a.makes ∙ (e ∙ b.makes) in
    let one : j ≡ k = (d t).one_kind j k (subst (λ (x : Text). HasKind x j) same a) b in
    ap (λ (x : Kind). keyed (plain x) s) one ∙ ap (λ (x : Text). keyed (plain k) x) same

-- two plain names are equal with letters lowered, and not a label and its constructor
abbrev AreAlike : Kind → Kind → Text → Text → Type 0
AreAlike j k x y = (lowered x ≡ lowered y) × ¬ (IsItsConstructor j k ⊎ IsItsConstructor k j)

kinds_clash-key : AreDecided → (s t : Text) (j k : Kind) → HasKind s j → HasKind t k → KindsClash j k → keyed (plain j) s ≡ keyed (plain k) t
kinds_clash-key d s t j k a b h =
    elim (both-cases (plain j) (plain k) (AreAlike j k) (joined j ≡ joined k) h) [
      | inl w ↦ ap (λ (o : Option Text). keyed o s) w.2 ∙ (ap (λ (x : Text). 46 ∷ x) w.4.0 ∙ sym (ap (λ (o : Option Text). keyed o t) w.3))
      | inr e ↦ same_kind-key d s t j k a b e
    ]

-- clashing names share their key
pub clash-key : AreDecided → (s t p q : Text) → HasKey s p → HasKey t q → Clash s t → p ≡ q
clash-key d s t p q a b c =
    one_key d s p (keyed (plain c.one) s) a (record { kind = c.one; named = c.of_one; is = refl })
    ∙ (kinds_clash-key d s t c.one c.other c.of_one c.of_other c.clash
    ∙ one_key d t (keyed (plain c.other) t) q (record { kind = c.other; named = c.of_other; is = refl }) b)

-- ---- of three names with one key two clash

label_or_constructor : (k : Kind) (x y : Text) → k ≡ label x → k ≡ constructor y → ⊥
label_or_constructor k x y e f = cc

abbrev ArePaired : Kind → Kind → Type 0
ArePaired j k = IsItsConstructor j k ⊎ IsItsConstructor k j

no_three : (j k l : Kind) → ArePaired j k → ArePaired j l → ArePaired k l → ⊥
no_three j k l (inl a) (inl b) (inl c) = label_or_constructor k c.0 a.0 c.1 a.2
no_three j k l (inl a) (inl b) (inr c) = label_or_constructor l c.0 b.0 c.1 b.2
no_three j k l (inl a) (inr b) c = label_or_constructor j a.0 b.0 a.1 b.2
no_three j k l (inr a) (inl b) c = label_or_constructor j b.0 a.0 b.1 a.2
no_three j k l (inr a) (inr b) (inl c) = label_or_constructor l b.0 c.0 b.1 c.2
no_three j k l (inr a) (inr b) (inr c) = label_or_constructor k a.0 c.0 a.1 c.2

paired : (j k : Kind) (x y : Text) → plain j ≡ Some x → plain k ≡ Some y → lowered x ≡ lowered y → ¬ KindsClash j k → (¬ ArePaired j k) → ⊥
paired j k x y e f g apart none = apart (both-plain (plain j) (plain k) (AreAlike j k) (joined j ≡ joined k) x y e f (g, none))

unmarked : (b : ℕ) (x y q : Text) → b ∷ x ≡ q → b ∷ y ≡ q → x ≡ y
unmarked b x y q e f = cc

marked_apart : (x y q : Text) → 46 ∷ x ≡ q → 61 ∷ y ≡ q → ⊥
marked_apart x y q e f = absurd (omega (arith, ap (λ (l : Text). slice_index_or l 0 0) (e ∙ sym f)))

three-kinds : (j k l : Kind) (s t u q : Text) (o p r : Option Text) → plain j ≡ o → plain k ≡ p → plain l ≡ r
    → keyed o s ≡ q → keyed p t ≡ q → keyed r u ≡ q → joined j ≡ s → joined k ≡ t
    → ¬ KindsClash j k → ¬ KindsClash j l → ¬ KindsClash k l → ⊥
three-kinds j k l s t u q (Some x) (Some y) (Some z) a b c e f g _ _ m n h =
    paired j k x y a b (unmarked 46 _ _ q e f) m (λ v. paired j l x z a c (unmarked 46 _ _ q e g) n (λ w. paired k l y z b c (unmarked 46 _ _ q f g) h (no_three j k l v w)))
three-kinds j k l s t u q (Some x) (Some y) None a b c e f g _ _ m n h = marked_apart _ _ q e g
three-kinds j k l s t u q (Some x) None r a b c e f g _ _ m n h = marked_apart _ _ q e f
three-kinds j k l s t u q None (Some y) r a b c e f g _ _ m n h = marked_apart _ _ q f e
three-kinds j k l s t u q None None r a b c e f g v w m n h =
    m (both-other (plain j) (plain k) (AreAlike j k) (joined j ≡ joined k) a (v ∙ (unmarked 61 s t q e f ∙ sym w)))

kinds_apart : (s t : Text) (j k : Kind) → HasKind s j → HasKind t k → ¬ Clash s t → ¬ KindsClash j k
kinds_apart s t j k a b none h = none (record { one = j; other = k; of_one = a; of_other = b; clash = h })

-- of three names with one key two clash
pub three_clash : (s t u q : Text) → HasKey s q → HasKey t q → HasKey u q → ¬ Clash s t → ¬ Clash s u → ¬ Clash t u → ⊥
three_clash s t u q a b c m n h =
    three-kinds a.kind b.kind c.kind s t u q (plain a.kind) (plain b.kind) (plain c.kind) refl refl refl a.is b.is c.is a.named.makes b.named.makes
    (kinds_apart s t a.kind b.kind a.named b.named m) (kinds_apart s u a.kind c.kind a.named c.named n) (kinds_apart t u b.kind c.kind b.named c.named h)
