-- What `==` answers of entries, by what is seen of them, and of two lists, as far as a loop has come.
use Rattle.std.proofs.Common.{ℕ, suc, Bool, true, false, not, ◌&&◌, ◌∙◌, sym, ap, List, [], ◌∷◌, map, slice_get, drop, Some, ◌≡◌, refl}
use Rattle.std.proofs.lemmas.Bool.{not-true, not-false}
use Rattle.std.specs.Cmp.Lexicographic.{pointwise}
use Rattle.wac_types_shapes.specs.primitives.Name.{Name}
use Rattle.wac_types_shapes.specs.shapes.Named.{names_of}
use Rattle.wac_types_shapes.specs.private.shapes.Equal.{same_text, same_labels, same_named}
use Rattle.wac_types_shapes.proofs.lemmas.shapes.Loops.{drop_at}

-- a comparison of lists is one of what is seen of their items
pub pointwise_seen : {A B : Type 0} (f : A → B) (E : A → A → Bool) (F : B → B → Bool) → ((a b : A) → E a b ≡ F (f a) (f b)) → (xs ys : List A) → pointwise E xs ys ≡ pointwise F (map f xs) (map f ys)
pointwise_seen f E F same [] [] = refl
pointwise_seen f E F same [] (y ∷ ys) = refl
pointwise_seen f E F same (x ∷ xs) [] = refl
pointwise_seen f E F same (x ∷ xs) (y ∷ ys) = (λ i. same x y i && pointwise_seen f E F same xs ys i)

-- of two answers of which the second is yes, the first alone tells
first_tells : (a b : Bool) → b ≡ true → (a && b) ≡ a
first_tells true b h = h
first_tells false b h = refl

pub seen_by_names : {V : Type 0} (E : V → V → Bool) → ((a b : V) → E a b ≡ true) → (xs ys : List (Name × V)) → same_named E xs ys ≡ same_labels (names_of xs) (names_of ys)
seen_by_names E always xs ys = pointwise_seen (λ e. e.0) _ same_text (λ a b. first_tells (same_text a.0 b.0) (E a.1 b.1) (always a.1 b.1)) xs ys

-- answers of `!=`
pub not_true : (b : Bool) → true ≡ not b → b ≡ false
not_true b h = not-true b (sym h)

pub not_false : (b : Bool) → false ≡ not b → b ≡ true
not_false b h = not-false b (sym h)

-- a comparison of two lists, one further on
pub compared_more : {A : Type 0} (E : A → A → Bool) (xs ys : List A) (i : ℕ) (x y : A) (b : Bool) → slice_get xs i ≡ Some x → slice_get ys i ≡ Some y → E x y ≡ b → pointwise E (drop i xs) (drop i ys) ≡ pointwise E xs ys
    → (b && pointwise E (drop (suc i) xs) (drop (suc i) ys)) ≡ pointwise E xs ys
compared_more E xs ys i x y b here there is so_far =
    let first : pointwise E (drop i xs) (drop i ys) ≡ (E x y && pointwise E (drop (suc i) xs) (drop (suc i) ys)) = (λ j. pointwise E (drop_at xs i x here j) (drop_at ys i y there j)) in
    ap (λ c. c && pointwise E (drop (suc i) xs) (drop (suc i) ys)) (sym is) ∙ sym first ∙ so_far
