-- The union of items: of instances name by name, and of type items.
use Rattle.std.proofs.Common.{ℕ, zero, suc, ◌≡◌, ◌⊎◌, inl, inr, List, [], ◌∷◌, map, Some, slice_get, refl, ap, sym, ◌∙◌}
use Rattle.std.proofs.Math.Path.{fun_ext}
use Rattle.wac_types_shapes.specs.primitives.Name.{Name}
use Rattle.wac_types_shapes.specs.primitives.Tree.{Tree, absent, fresh, type_equal, instance, instance_item}
use Rattle.wac_merge_classes.specs.terms.Union.{union, union_all}
use Rattle.wac_merge_classes.proofs.lemmas.terms.Found.{no_some, some_same}

union-absent : (t : Tree) → union t absent ≡ t
union-absent absent = refl
union-absent t = refl

-- The union of instances has the union of their exports under each name.
pub union-instances : {A : Type 0} (g : A → Tree) (f : A → Name → Tree) (xs : List A) → ((j : ℕ) (x : A) → slice_get xs j ≡ Some x → g x ≡ instance_item (instance (f x))) → (j : ℕ) (x : A) → slice_get xs j ≡ Some x
    → union_all (map g xs) ≡ instance_item (instance (λ n. union_all (map (λ y. f y n) xs)))
union-instances g f [] each j x at = absurd (no_some x at)
union-instances g f (y ∷ []) each j x at =
    union-absent (g y) ∙ each 0 y refl ∙ ap (λ (h : Name → Tree). instance_item (instance h)) (fun_ext (λ n. sym (union-absent (f y n))))
union-instances g f (y ∷ (z ∷ xs)) each j x at =
    let first = each 0 y refl in
    let rest = union-instances g f (z ∷ xs) (λ k w there. each (suc k) w there) 0 z refl in
    λ i. union (first i) (rest i)

-- The tree is that of a type item, or there is none.
abbrev pub IsTypeOrNone : Tree → Type 0
IsTypeOrNone absent = Unit {0}
IsTypeOrNone fresh = Unit {0}
IsTypeOrNone (type_equal t) = Unit {0}
IsTypeOrNone t = ⊥

with-fresh : (t : Tree) → IsTypeOrNone t → union t fresh ≡ fresh
with-fresh absent h = refl
with-fresh fresh h = refl
with-fresh (type_equal t) h = refl
with-fresh t h = absurd h

-- The union of type items one of which is fresh is fresh.
pub union-fresh : {A : Type 0} (f : A → Tree) (xs : List A) → ((j : ℕ) (x : A) → slice_get xs j ≡ Some x → IsTypeOrNone (f x)) → (j : ℕ) (x : A) → slice_get xs j ≡ Some x → f x ≡ fresh → union_all (map f xs) ≡ fresh
union-fresh f [] each j x at is = absurd (no_some x at)
union-fresh f (y ∷ xs) each zero x at is = ap (λ t. union t (union_all (map f xs))) (ap f (some_same y x at) ∙ is)
union-fresh f (y ∷ xs) each (suc j) x at is =
    ap (union (f y)) (union-fresh f xs (λ k z there. each (suc k) z there) j x at is) ∙ with-fresh (f y) (each 0 y refl)

-- Each is this type item, or there is none.
abbrev pub AreSame : {A : Type 0} → (A → Tree) → Tree → List A → Type 0
AreSame f t xs = (j : ℕ) (x : _) → slice_get xs j ≡ Some x → (f x ≡ absent) ⊎ (f x ≡ type_equal t)

either : {A : Type 0} (f : A → Tree) (t : Tree) (xs : List A) → AreSame f t xs → (union_all (map f xs) ≡ absent) ⊎ (union_all (map f xs) ≡ type_equal t)
either f t [] each = inl refl
either f t (y ∷ xs) each = elim (each 0 y refl) [
  | inl none ↦ elim (either f t xs (λ k z there. each (suc k) z there)) [
    | inl nothing ↦ inl (ap (λ u. union u (union_all (map f xs))) none ∙ nothing)
    | inr rest ↦ inr (ap (λ u. union u (union_all (map f xs))) none ∙ rest)
  ]
  | inr first ↦ elim (either f t xs (λ k z there. each (suc k) z there)) [
    | inl nothing ↦ inr (λ i. union (first i) (nothing i))
    | inr rest ↦ inr (λ i. union (first i) (rest i))
  ]
]

-- The union of one type item several times is that item.
pub union-same : {A : Type 0} (f : A → Tree) (t : Tree) (xs : List A) → AreSame f t xs → (j : ℕ) (x : A) → slice_get xs j ≡ Some x → f x ≡ type_equal t → union_all (map f xs) ≡ type_equal t
union-same f t [] each j x at is = absurd (no_some x at)
union-same f t (y ∷ xs) each zero x at is =
    let first : f y ≡ type_equal t = ap f (some_same y x at) ∙ is in
    elim (either f t xs (λ k z there. each (suc k) z there)) [
      | inl nothing ↦ (λ i. union (first i) (nothing i))
      | inr rest ↦ (λ i. union (first i) (rest i))
    ]
union-same f t (y ∷ xs) each (suc j) x at is =
    let rest = union-same f t xs (λ k z there. each (suc k) z there) j x at is in
    elim (each 0 y refl) [
      | inl none ↦ ap (λ u. union u (union_all (map f xs))) none ∙ rest
      | inr first ↦ (λ i. union (first i) (rest i))
    ]
