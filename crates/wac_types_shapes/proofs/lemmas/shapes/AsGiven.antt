-- What is given, as far as a loop over it has come.
use Rattle.std.proofs.Common.{ℕ, ◌≡◌, ◌<◌, ◌≤◌, refl, sym, ap, ◌∙◌, List, [], ◌∷◌, map, length, get_or, take, take_all, IsSome}
use Rattle.std.proofs.lemmas.List.{take-map}
use Rattle.std.proofs.lemmas.Option.{slice_get-map, slice_get-get_or}
use Rattle.std.specs.Option.{option_map}
use Rattle.wac_types_shapes.specs.primitives.Name.{Name, find_name}
use Rattle.wac_types_shapes.specs.shapes.Named.{NoNameTwice, names_of, labelled}
use Rattle.wac_types_shapes.proofs.lemmas.shapes.Names.{none_before}
use Rattle.wac_types_shapes.proofs.lemmas.shapes.Under.{not_some}

-- at the end of the loop all are
pub given_all : {A B : Type 0} (f : A → B) (xs : List A) (i : ℕ) (ys : List B) → length xs ≤ i → ys ≡ map f (take i xs) → ys ≡ map f xs
given_all f xs i ys le so_far = so_far ∙ ap (map f) (take_all i xs le)

-- a name that stands among those so far stands twice
pub given_twice : {A V : Type 0} (f : A → Name × V) (xs : List A) (i : ℕ) (d : A) (old : List (Name × V)) → i < length xs → old ≡ map f (take i xs) → IsSome (find_name old (f (get_or xs i d)).0) → NoNameTwice (map f xs) → ⊥
given_twice f xs i d old lt so_far there once =
    let n = (f (get_or xs i d)).0 in
    let at = slice_get-map f xs i ∙ ap (option_map f) (slice_get-get_or xs i d lt) in
    not_some _ (ap (λ es. find_name es n) (so_far ∙ sym (take-map f i xs)) ∙ none_before (map f xs) i n (f (get_or xs i d)).1 once at) there

pub labelled_names_of : (es : List (Name × Unit {0})) → labelled (names_of es) ≡ es
labelled_names_of [] = refl
labelled_names_of (e ∷ es) = ap (λ r. e ∷ r) (labelled_names_of es)
