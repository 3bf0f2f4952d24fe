-- What is in the format: the first elements of a list, all of them, and a list with one more.
use Rattle.std.proofs.Common.{subst, sym, arith, add-one}
use Rattle.std.specs.Prelude.{ℕ, zero, suc, ◌≡◌, ◌+◌, ◌<◌, ◌≤◌, ◌^◌, List, [], ◌∷◌, ◌++◌, length, map, take, slice_index_or, slice_index}
use Rattle.std.specs.List.{AllByRecursion}
use Rattle.wac_binary.specs.Items.{Decl, decls}
use Rattle.wac_binary.specs.Format.{AreBytes, DeclsAreInFormat, DeclIsInFormat}

module _ {A : Type 0} (P : A → Type 0) where
  pub all-first : (xs : List A) → AllByRecursion P (take 0 xs)
  all-first [] = tt
  all-first (x ∷ xs) = tt

  one-more : (xs : List A) (i : ℕ) (d : A) → i < length xs → AllByRecursion P (take i xs) → P (slice_index_or xs i d) → AllByRecursion P (take (suc i) xs)
  one-more [] i d h all one = absurd (omega (arith, h))
  one-more (x ∷ xs) zero d h all one = (one, all-first xs)
  one-more (x ∷ xs) (suc i) d h all one = (all.0, one-more xs i d (omega (arith, h)) all.1 one)

  pub all-next : (xs : List A) (i : ℕ) (d : A) → i < length xs → AllByRecursion P (take i xs) → P (slice_index_or xs i d) → AllByRecursion P (take (i + 1) xs)
  all-next xs i d h all one = subst (λ (n : ℕ). AllByRecursion P (take n xs)) (sym (add-one i)) (one-more xs i d h all one)

  pub all-taken : (xs : List A) (n : ℕ) → length xs ≤ n → AllByRecursion P (take n xs) → AllByRecursion P xs
  all-taken [] n h all = tt
  all-taken (x ∷ xs) zero h all = absurd (omega (arith, h))
  all-taken (x ∷ xs) (suc n) h all = (all.0, all-taken xs n (omega (arith, h)) all.1)

  pub all-snoc : (xs : List A) (x : A) → AllByRecursion P xs → P x → AllByRecursion P (xs ++ x ∷ [])
  all-snoc [] x all one = (one, tt)
  all-snoc (y ∷ ys) x all one = (all.0, all-snoc ys x all.1 one)

all-map : {A B : Type 0} (P : B → Type 0) (f : A → B) (xs : List A) → AllByRecursion (λ x. P (f x)) xs → AllByRecursion P (map f xs)
all-map P f [] all = tt
all-map P f (x ∷ xs) all = (all.0, all-map P f xs all.1)

-- the values of all elements, once all are read
pub all-mapped : {A B : Type 0} (P : B → Type 0) (f : A → B) (xs : List A) (n : ℕ) → length xs ≤ n → AllByRecursion (λ x. P (f x)) (take n xs) → AllByRecursion P (map f xs)
all-mapped P f xs n h all = all-map P f xs (all-taken (λ x. P (f x)) xs n h all)

pub all-bytes : (bytes : List ℕ) → ((k : ℕ) → slice_index bytes k < 2 ^ 8) → AreBytes bytes
all-bytes [] h = tt
all-bytes (b ∷ bytes) h = (h 0, all-bytes bytes (λ k. h (suc k)))

pub decls-snoc : (ds : List Decl) (d : Decl) → DeclsAreInFormat (decls ds) → DeclIsInFormat d → DeclsAreInFormat (decls (ds ++ d ∷ []))
decls-snoc [] d all one = (one, tt)
decls-snoc (x ∷ ds) d all one = (all.0, decls-snoc ds d all.1 one)
