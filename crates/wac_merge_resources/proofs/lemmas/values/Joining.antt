-- What holds of the items before a place, and of the item there, holds of those before the next place; and which pairs one join makes one named type.
use Rattle.std.proofs.Common.{◌≡◌, ℕ, ◌+◌, ◌<◌, ◌≤◌, get_or, zero, suc, nat_eq, List, [], ◌∷◌, length, Option, Some, slice_get, sym, ◌∙◌, ap, subst, arith, inl, inr}
use Rattle.std.proofs.lemmas.Bool.{cases_Bool, eqb-true, eqb-false}
use Rattle.std.proofs.lemmas.Option.{slice_get-get_or}
use Rattle.std.specs.Option.{unwrap_or}
use Rattle.wac_types_shapes.specs.primitives.Name.{Name, find_name, option_case}
use Rattle.wac_types_collection.specs.collection.Collection.{Collection, interface_exports, item_at}
use Rattle.wac_types_shapes.specs.declared.shapes.component.InterfaceId.{InterfaceId}
use Rattle.wac_types_shapes.specs.declared.shapes.component.Interface.{Interface}
use Rattle.wac_types_shapes.specs.declared.shapes.component.DefinedTypeId.{DefinedTypeId}
use Rattle.wac_types_shapes.specs.declared.shapes.component.ItemKind.{ItemKind}
use Rattle.wac_merge_classes.specs.terms.Values.{listed_value}
use Rattle.wac_merge_classes.specs.declared.terms.parts.Export.{Export}
use Rattle.wac_merge_resources.specs.values.NamedTypes.{AreAllOne, IsAskedWith, IsListedWith, IsOneType}
use Rattle.wac_merge_resources.specs.declared.values.named.NamedTypes.{NamedTypes}

pub same-item : {A : Type 0} (x y : A) → Some x ≡ Some y → x ≡ y
same-item x y e = cc e

-- an item that is there stands before the end
pub within : {A : Type 0} (xs : List A) (i : ℕ) (x : A) → slice_get xs i ≡ Some x → i < length xs
within [] i x at = cc at
within (y ∷ ys) zero x at = omega arith
within (y ∷ ys) (suc i) x at = let l = within ys i x at in omega (arith, l)

module _ {A : Type 0} (xs : List A) (P : ℕ → A → Type 0) (i : ℕ) (x : A) (at : slice_get xs i ≡ Some x) (last : P i x) (before : (j : ℕ) (y : A) → j < i → slice_get xs j ≡ Some y → P j y) where
  pub item-last : (j : ℕ) (y : A) → j < i + 1 → slice_get xs j ≡ Some y → P j y
  item-last j y low is = elim (cases_Bool (nat_eq i j)) [
    | inl same ↦
        let here = eqb-true i j same in
        subst (λ k. P k y) here (subst (P i) (same-item x y (sym at ∙ ap (slice_get xs) here ∙ is)) last)
    | inr other ↦ before j y (omega (arith, low, eqb-false i j other)) is
  ]

pub at-last : (es : List (Name × ItemKind)) (P : Name → ItemKind → Type 0) (i : ℕ) (n : Name) (k : ItemKind) → slice_get es i ≡ Some (n, k) → P n k
    → ((j : ℕ) (m : Name) (l : ItemKind) → j < i → slice_get es j ≡ Some (m, l) → P m l) → (j : ℕ) (m : Name) (l : ItemKind) → j < i + 1 → slice_get es j ≡ Some (m, l) → P m l
at-last es P i n k at last before j m l low is = item-last es (λ _ e. P e.0 e.1) i (n, k) at last (λ j e low is. before j e.0 e.1 low is) j (m, l) low is

pub interface-lists : (c : Collection) (i : InterfaceId) (it : Interface) (j : ℕ) (n : Name) (k : ItemKind) → item_at c.interfaces i.0 ≡ Some it → slice_get (interface_exports c i) j ≡ Some (n, k) → slice_get it.exports j ≡ Some (n, k)
interface-lists c i it j n k at is = ap (λ o. slice_get (option_case o [] (λ x. x.exports)) j) (sym at) ∙ is

pub lists-interface : (c : Collection) (i : InterfaceId) (it : Interface) (j : ℕ) (n : Name) (k : ItemKind) → item_at c.interfaces i.0 ≡ Some it → slice_get it.exports j ≡ Some (n, k) → slice_get (interface_exports c i) j ≡ Some (n, k)
lists-interface c i it j n k at is = ap (λ o. slice_get (option_case o [] (λ x. x.exports)) j) at ∙ is

-- what a look-up found, and that it found nothing
pub read-there : {A : Type 0} (xs : List A) (i : ℕ) (x y : A) → i < length xs → x ≡ get_or xs i x → slice_get xs i ≡ Some y → x ≡ y
read-there xs i x y low is at = same-item x y (ap Some is ∙ sym (slice_get-get_or xs i x low) ∙ at)

pub read-is : {A : Type 0} (xs : List A) (i : ℕ) (x : A) → i < length xs → x ≡ get_or xs i x → slice_get xs i ≡ Some x
read-is xs i x low is = slice_get-get_or xs i x low ∙ ap Some (sym is)

pub read-past : {A : Type 0} (P : Type 0) (xs : List A) (i : ℕ) (y : A) → length xs ≤ i → slice_get xs i ≡ Some y → P
read-past P xs i y high at = let l = within xs i y at in absurd (omega (arith, l, high))

-- ---- what one join makes one named type

-- what is listed under a name, with what stands there or with itself
pub listed-one : (c : Collection) (union : List (Name × Export)) (n : Name) (k : ItemKind) (t : NamedTypes) (first value : DefinedTypeId) → listed_value c k ≡ Some value
    → ((e : Export) (d : DefinedTypeId) → find_name union n ≡ Some e → listed_value c e.kind ≡ Some d → first ≡ d) → IsOneType t first value → AreAllOne (IsListedWith c union n k) t
listed-one c union n k t first value is standing (r, p, q) a b (at, inl same) =
    subst (λ x. IsOneType t x b) (sym same) (subst (λ x. IsOneType t x x) (same-item value b (sym is ∙ at)) (r, q, q))
listed-one c union n k t first value is standing one a b (at, inr (e, find, there)) =
    subst (λ x. IsOneType t x b) (standing e a find there) (subst (λ x. IsOneType t first x) (same-item value b (sym is ∙ at)) one)

-- nothing, where no value type is listed
pub none-listed : (c : Collection) (union : List (Name × Export)) (n : Name) (k : ItemKind) (t : NamedTypes) → ((d : DefinedTypeId) → listed_value c k ≡ Some d → ⊥) → AreAllOne (IsListedWith c union n k) t
none-listed c union n k t none a b (at, with) = absurd (none b at)

-- what an entry is, with what its class is or with itself
pub asked-one : (c : Collection) (k : ItemKind) (class : Option DefinedTypeId) (t : NamedTypes) (first value : DefinedTypeId) → listed_value c k ≡ Some value
    → first ≡ unwrap_or class value → IsOneType t first value → AreAllOne (IsAskedWith c k class) t
asked-one c k class t first value is standing (r, p, q) a b (at, inl same) =
    subst (λ x. IsOneType t x b) (sym same) (subst (λ x. IsOneType t x x) (same-item value b (sym is ∙ at)) (r, q, q))
asked-one c k class t first value is standing one a b (at, inr there) =
    subst (λ x. IsOneType t x b) (standing ∙ ap (λ o. unwrap_or o value) there) (subst (λ x. IsOneType t first x) (same-item value b (sym is ∙ at)) one)

pub none-asked : (c : Collection) (k : ItemKind) (class : Option DefinedTypeId) (t : NamedTypes) → ((d : DefinedTypeId) → listed_value c k ≡ Some d → ⊥) → AreAllOne (IsAskedWith c k class) t
none-asked c k class t none a b (at, with) = absurd (none b at)
