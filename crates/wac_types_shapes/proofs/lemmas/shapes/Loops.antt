-- Lists and entries at a position, as far as a loop has come.
use Rattle.std.proofs.Common.{ℕ, zero, suc, ◌<◌, ◌∙◌, arith, length, slice_get, get_or, drop, drop-cons, take, List, [], ◌∷◌, ◌++◌, ◌≡◌, refl, ap, Some}
use Rattle.std.proofs.lemmas.List.{same_lists as lists_same}
use Rattle.std.proofs.lemmas.Option.{get_or_from_slice_get, slice_get-get_or, slice_get_within}
use Rattle.std.specs.Option.{option_map}
use Rattle.wac_types_shapes.specs.primitives.Name.{Name}
use Rattle.wac_types_shapes.proofs.lemmas.shapes.Names.{take_at}

-- what is left from a position on
pub drop_at : {A : Type 0} (xs : List A) (i : ℕ) (x : A) → slice_get xs i ≡ Some x → drop i xs ≡ x ∷ drop (suc i) xs
drop_at xs i x h = drop-cons xs i x (slice_get_within xs i x h) ∙ ap (λ y. y ∷ drop (suc i) xs) (get_or_from_slice_get xs i x x h)

-- an entry, by its name and value
pub entry_at : {V : Type 0} (es : List (Name × V)) (i : ℕ) (n : Name) (v : V) → option_map (λ e. e.0) (slice_get es i) ≡ Some n → option_map (λ e. e.1) (slice_get es i) ≡ Some v → slice_get es i ≡ Some (n, v)
entry_at [] i n v a b = cc
entry_at (e ∷ es) zero n v a b = let x : e.0 ≡ n = cc in let y : e.1 ≡ v = cc in rw (x, y) refl
entry_at (e ∷ es) (suc i) n v a b = entry_at es i n v a b

pub take_more : {V : Type 0} (es : List (Name × V)) (i : ℕ) (n : Name) (v : V) → option_map (λ e. e.0) (slice_get es i) ≡ Some n → option_map (λ e. e.1) (slice_get es i) ≡ Some v
    → take (suc i) es ≡ take i es ++ (n, v) ∷ []
take_more es i n v a b = take_at es i (n, v) (entry_at es i n v a b)

-- lists of one length with the same at each position
pub same_lists : {A : Type 0} (xs ys : List A) → length xs ≡ length ys → ((k : ℕ) → k < length xs → slice_get xs k ≡ slice_get ys k) → xs ≡ ys
same_lists xs ys e f = lists_same xs ys e (λ k d lt. get_or_from_slice_get xs k (get_or ys k d) d (f k lt ∙ slice_get-get_or ys k d (omega (arith, lt, e))))
