-- Positions and lists.
use Rattle.std.specs.Prelude.{slice_get}
use Rattle.std.specs.Option.{option_map}
use Rattle.std.proofs.Common.{ℕ, zero, suc, ◌+◌, ◌<◌, ◌≡◌, ◌⊎◌, inl, inr, List, [], ◌∷◌, ◌++◌, length, Option, Some, None, refl, ap, ◌∙◌, arith}
use Rattle.wac_types_shapes.specs.primitives.Name.{Name}
use Rattle.wac_types_shapes.specs.declared.shapes.component.ItemKind.{ItemKind}
use Rattle.wac_types_shapes.specs.declared.shapes.component.ValueType.{ValueType}
use Rattle.wac_types_collection.specs.collection.Collection.{value_types, and_maybe}

pub some-is : {A : Type 0} (x y : A) → Some x ≡ Some y → x ≡ y
some-is x y e = cc

pub within : {A : Type 0} (xs : List A) (k : ℕ) (x : A) → slice_get xs k ≡ Some x → k < length xs
within [] k x at = let none_some : None ≡ Some x = at in cc
within (y ∷ xs) zero x at = omega arith
within (y ∷ xs) (suc k) x at = let less : k < length xs = within xs k x at in omega (arith, less)

pub there-is : {A : Type 0} (xs : List A) (k : ℕ) → k < length xs → (x : A) × (slice_get xs k ≡ Some x)
there-is [] k l = absurd (omega (arith, l))
there-is (x ∷ xs) zero l = (x, refl)
there-is (x ∷ xs) (suc k) l = there-is xs k (omega (arith, l))

pub below-or-last : (i n : ℕ) → i < n + 1 → (i < n) ⊎ (i ≡ n)
below-or-last zero zero less = inr refl
below-or-last zero (suc n) less = inl (omega arith)
below-or-last (suc i) zero less = absurd (omega (arith, less))
below-or-last (suc i) (suc n) less = elim (below-or-last i n (omega (arith, less))) [ inl k ↦ inl (omega (arith, k)) | inr e ↦ inr (ap suc e) ]

pub beyond : {A : Type 0} (xs : List A) (q : ℕ) → slice_get xs (length xs + q) ≡ None
beyond [] q = refl
beyond (x ∷ xs) q = let far : length (x ∷ xs) + q ≡ suc (length xs + q) = omega arith in ap (slice_get (x ∷ xs)) far ∙ beyond xs q

-- The item at a position, by its value.
pub second-is : (es : List (Name × ItemKind)) (n : ℕ) (k : ItemKind) → option_map (λ e. e.1) (slice_get es n) ≡ Some k → (e : Name × ItemKind) × (slice_get es n ≡ Some e) × (e.1 ≡ k)
second-is es n k is = by_entry (slice_get es n) refl is
  where
    by_entry : (o : Option (Name × ItemKind)) → slice_get es n ≡ o → option_map (λ e. e.1) o ≡ Some k → (e : Name × ItemKind) × (slice_get es n ≡ Some e) × (e.1 ≡ k)
    by_entry None at is = let none_some : None ≡ Some k = is in cc
    by_entry (Some e) at is = (e, at, some-is e.1 k is)

-- Value types, with an optional one before them.
pub maybe-first : (o : Option ValueType) (vs : List ValueType) → value_types (and_maybe o []) ++ value_types vs ≡ value_types (and_maybe o vs)
maybe-first None vs = refl
maybe-first (Some v) vs = refl
