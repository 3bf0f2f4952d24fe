-- Tests that tell apart what things stand for.
use Rattle.std.proofs.Common.{Global, ℕ, ◌≡◌, Bool, true, ◌&&◌, nat_eq, List, [], ◌∷◌, map, refl}
use Rattle.std.proofs.lemmas.Bool.{and_parts}
use Rattle.std.specs.Borrow.{Bor}
use Rattle.std.specs.Cmp.Derive.{both_true}
use Rattle.std.specs.Cmp.Lexicographic.{pointwise, bytes_decides}
use Rattle.std.specs.Prelude.{string_bytes}
use Rattle.std.specs.declared.string.String.{String}

-- the test decides whether both stand for the same
abbrev pub Tells : {A B : Type 0} → (A → B) → (A → A → Bool) → Type 0
Tells v E = (x y : _) → (E x y ≡ true → v x ≡ v y) × (v x ≡ v y → E x y ≡ true)

pub list_same : {A B : Type 0} (v : A → B) (E : A → A → Bool) → Tells v E → (xs ys : List A) → pointwise E xs ys ≡ true → map v xs ≡ map v ys
list_same v E t [] [] h = refl
list_same v E t (x ∷ xs) (y ∷ ys) h = let (a, b) = and_parts (E x y) (pointwise E xs ys) h in rw ((t x y).0 a, list_same v E t xs ys b) refl
list_same v E t _ _ h = cc

pub and_true : (p q : Bool) → p ≡ true → q ≡ true → (p && q) ≡ true
and_true p q h g = both_true h g

pub list_itself : {A B : Type 0} (v : A → B) (E : A → A → Bool) → Tells v E → (xs ys : List A) → map v xs ≡ map v ys → pointwise E xs ys ≡ true
list_itself v E t [] [] h = refl
list_itself v E t (x ∷ xs) (y ∷ ys) h = both_true ((t x y).1 cc) (list_itself v E t xs ys cc)
list_itself v E t _ _ h = cc

abbrev pub Text : Type 0
Text = String Global

abbrev pub text_eq : Text → Text → Bool
text_eq x y = pointwise nat_eq (string_bytes x) (string_bytes y)

pub text_tells : Tells string_bytes text_eq
text_tells x y = bytes_decides (string_bytes x) (string_bytes y)

-- a text that stands elsewhere
abbrev pub Borrowed : Type 0
Borrowed = Bor (List ℕ)

abbrev pub bytes : Borrowed → List ℕ
bytes x = x.now

abbrev pub borrowed_eq : Borrowed → Borrowed → Bool
borrowed_eq x y = pointwise nat_eq x.now y.now

pub borrowed_tells : Tells bytes borrowed_eq
borrowed_tells x y = bytes_decides x.now y.now
