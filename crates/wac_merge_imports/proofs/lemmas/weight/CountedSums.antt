-- Sums over lists: of what something became, of parts of a list, and of what is found under names.
use Rattle.std.proofs.Common.{ℕ, zero, suc, ◌+◌, ◌≤◌, Bool, true, false, if◌then◌else◌, List, [], ◌∷◌, ◌++◌, filter, length, Contains, Option, Some, slice_get, ◌≡◌, ◌⊎◌, inl, inr, refl, ap, sym, ◌∙◌, subst, arith}
use Rattle.std.specs.List.{AllZip, list_any, sum_by}
use Rattle.std.proofs.lemmas.List.Sums.{sum_by-cons, sum_by-append}
use Rattle.wac_types_shapes.specs.primitives.Name.{Name, find_name, option_case, same_name}
use Rattle.wac_types_shapes.specs.declared.shapes.component.ItemKind.{ItemKind}
use Rattle.wac_types_shapes.proofs.lemmas.shapes.Names.{same_name-refl, same_name-true}
use Rattle.wac_types_collection.proofs.lemmas.wide.Members.{in_none, in_first, in_rest, in_parts, in_left, in_right, in_either, in_at}
use Rattle.wac_types_weight.specs.Weight.{label, named_part, named_parts}
use Rattle.wac_types_weight.proofs.Sums.{Differ, differ_more, sum_both, sum_in, sum_same}
use Rattle.wac_merge_classes.specs.terms.Merge.{names_behind, with_names}
use Rattle.wac_merge_classes.proofs.lemmas.entries.Lists.{none-at}
use Rattle.wac_merge_classes.proofs.lemmas.terms.Found.{no_some}
use Rattle.wac_merge_imports.proofs.lemmas.faults.ListedOnce.{AreOnce}

-- a list around an element
parted : {A : Type 0} (ys : List A) (x : A) → Contains ys x → (a : List A) × (b : List A) × (ys ≡ a ++ x ∷ b)
parted [] x h = absurd (in_none x h)
parted (y ∷ ys) x h = elim (in_parts y x ys h) [
  | inl e ↦ ([], ys, ap (λ z. z ∷ ys) (sym e))
  | inr w ↦ let (a, b, is) = parted ys x w in (y ∷ a, b, ap (λ l. y ∷ l) is)
]

-- ---- what something became

module _ {A B : Type 0} (f : A → ℕ) (g : B → ℕ) (R : B → A → Type 0) (one : (b : B) (x y : A) → R b x → R b y → x ≡ y) where
  -- An element has no weight, or something became it that weighs as much.
  abbrev pub HasOriginal : List B → A → Type 0
  HasOriginal ys x = (f x ≡ 0) ⊎ ((b : B) × Contains ys b × R b x × (f x ≤ g b))

  -- different elements that different ones became weigh no more than these
  pub sum_images : (xs : List A) (ys : List B) → Differ xs → ((x : A) → Contains xs x → HasOriginal ys x) → sum_by f xs ≤ sum_by g ys
  unfolding Differ
  sum_images [] ys apart of = omega arith
  sum_images (x ∷ xs) ys apart of = elim (of x (in_first x xs)) [
    | inl none ↦
        let rest = sum_images xs ys tail (λ y h. of y (in_rest x y xs h)) in
        omega (arith, none, rest, sum_by-cons f x xs)
    | inr w ↦
        let b = w.0 in
        let around = parted ys b w.1 in
        let l = around.0 in
        let k = around.1 in
        let rest = sum_images xs (l ++ k) tail (λ y h. other l k b around.2 w.2 y h (of y (in_rest x y xs h))) in
        let whole : sum_by g ys ≡ sum_by g (l ++ b ∷ k) = ap (sum_by g) around.2 in
        let less = w.3 in
        omega (arith, rest, whole, less, sum_by-cons f x xs, sum_by-append g l (b ∷ k), sum_by-cons g b k, sum_by-append g l k)
  ]
    where
      tail : Differ xs
      tail i j y at also = let e = apart (suc i) (suc j) y at also in omega (arith, e)

      alone : Contains xs x → ⊥
      alone w = let (k, l, at) = in_at xs x w in let e = apart zero (suc k) x refl at in omega (arith, e)

      other : (l k : List B) (b : B) → ys ≡ l ++ b ∷ k → R b x → (y : A) → Contains xs y → HasOriginal ys y → HasOriginal (l ++ k) y
      other l k b is made y h (inl none) = inl none
      other l k b is made y h (inr w) =
          let d = w.0 in
          let there : Contains (l ++ k) d = elim (in_either l (b ∷ k) d (subst (λ z. Contains z d) is w.1)) [
            | inl left ↦ in_left l k d left
            | inr right ↦ elim (in_parts b d k right) [
              | inl same ↦ absurd (alone (subst (Contains xs) (sym (one b x y made (subst (λ z. R z y) same w.2))) h))
              | inr more ↦ in_right l k d more
            ]
          ] in
          inr (d, there, w.2, w.3)

-- ---- parts of a list

module _ {A : Type 0} where
  pub sum_zero : (xs : List A) → sum_by (λ x. 0) xs ≡ 0
  sum_zero [] = refl
  sum_zero (x ∷ xs) = let rest = sum_zero xs in omega (arith, rest, sum_by-cons (λ (y : A). 0) x xs)

  module _ (q : A → Bool) (n : ℕ) where
    sum_never : (xs : List A) → ((i : ℕ) (a : A) → slice_get xs i ≡ Some a → q a ≡ true → ⊥) → sum_by (λ x. if q x then n else 0) xs ≡ 0
    sum_never [] never = refl
    sum_never (x ∷ xs) never =
        let rest = sum_never xs (λ i a at t. never (suc i) a at t) in
        let here : (if q x then n else 0) ≡ 0 = by (q x) refl in
        omega (arith, rest, here, sum_by-cons (λ y. if q y then n else 0) x xs)
      where
        by : (b : Bool) → q x ≡ b → (if b then n else 0) ≡ 0
        by true is = absurd (never zero x refl is)
        by false is = refl

    -- one element at most is counted
    pub sum_one : (xs : List A) → ((i j : ℕ) (a b : A) → slice_get xs i ≡ Some a → slice_get xs j ≡ Some b → q a ≡ true → q b ≡ true → i ≡ j) → sum_by (λ x. if q x then n else 0) xs ≤ n
    sum_one [] alone = omega arith
    sum_one (x ∷ xs) alone = by (q x) refl (sum_one xs (λ i j a b at also p r. let e = alone (suc i) (suc j) a b at also p r in omega (arith, e)))
      where
        by : (b : Bool) → q x ≡ b → sum_by (λ y. if q y then n else 0) xs ≤ n → sum_by (λ y. if q y then n else 0) (x ∷ xs) ≤ n
        by true is rest =
            let later = sum_never xs (λ i a at t. let e = alone zero (suc i) x a refl at is t in omega (arith, e)) in
            let here : (if q x then n else 0) ≡ n = ap (λ b. if b then n else 0) is in
            omega (arith, later, here, sum_by-cons (λ y. if q y then n else 0) x xs)
        by false is rest =
            let here : (if q x then n else 0) ≡ 0 = ap (λ b. if b then n else 0) is in
            omega (arith, rest, here, sum_by-cons (λ y. if q y then n else 0) x xs)

module _ {A B : Type 0} where
  -- parts that have nothing in common weigh no more than the whole
  pub sum_parts : (p : A → B → Bool) (f : B → ℕ) (xs : List A) (ys : List B) → ((y : B) → Contains ys y → (i j : ℕ) (a b : A) → slice_get xs i ≡ Some a → slice_get xs j ≡ Some b → p a y ≡ true → p b y ≡ true → i ≡ j)
      → sum_by (λ x. sum_by f (filter (p x) ys)) xs ≤ sum_by f ys
  sum_parts p f xs [] alone = let none : sum_by (λ x. sum_by f (filter (p x) [])) xs ≡ 0 = sum_zero xs in omega (arith, none)
  sum_parts p f xs (y ∷ ys) alone =
      let rest = sum_parts p f xs ys (λ z h. alone z (in_rest y z ys h)) in
      let here = sum_one (λ x. p x y) (f y) xs (alone y (in_first y ys)) in
      let both = sum_both (λ x. if p x y then f y else 0) (λ x. sum_by f (filter (p x) ys)) xs in
      let split = sum_same (λ x. sum_by f (filter (p x) (y ∷ ys))) (λ x. (if p x y then f y else 0) + sum_by f (filter (p x) ys)) xs (λ x h. by x (p x y)) in
      omega (arith, rest, here, both, split, sum_by-cons f y ys)
    where
      by : (x : A) (b : Bool) → sum_by f (if b then y ∷ filter (p x) ys else filter (p x) ys) ≡ (if b then f y else 0) + sum_by f (filter (p x) ys)
      by x true = sum_by-cons f y (filter (p x) ys)
      by x false = omega arith

  -- two lists beside each other
  pub sum_beside : (f : A → ℕ) (g : B → ℕ) (xs : List A) (ys : List B) → length xs ≡ length ys → ((i : ℕ) (x : A) (y : B) → slice_get xs i ≡ Some x → slice_get ys i ≡ Some y → f x ≤ g y) → sum_by f xs ≤ sum_by g ys
  sum_beside f g [] ys count each = omega arith
  sum_beside f g (x ∷ xs) [] count each = absurd (omega (arith, count))
  sum_beside f g (x ∷ xs) (y ∷ ys) count each =
      let first = each zero x y refl refl in
      let rest = sum_beside f g xs ys (omega (arith, count)) (λ i a b at also. each (suc i) a b at also) in
      omega (arith, first, rest, sum_by-cons f x xs, sum_by-cons g y ys)

  -- pairs of a relation
  pub sum_zipped : (R : A → B → Type 0) (f : A → ℕ) (g : B → ℕ) → ((x : A) (y : B) → R x y → g y ≤ f x) → (xs : List A) (ys : List B) → AllZip R xs ys → sum_by g ys ≤ sum_by f xs
  sum_zipped R f g less [] [] z = omega arith
  sum_zipped R f g less [] (y ∷ ys) z = absurd z
  sum_zipped R f g less (x ∷ xs) [] z = absurd z
  sum_zipped R f g less (x ∷ xs) (y ∷ ys) z =
      let first = less x y z.0 in
      let rest = sum_zipped R f g less xs ys z.1 in
      omega (arith, first, rest, sum_by-cons f x xs, sum_by-cons g y ys)

  pub zip_length : (R : A → B → Type 0) (xs : List A) (ys : List B) → AllZip R xs ys → length ys ≡ length xs
  zip_length R [] [] z = refl
  zip_length R [] (y ∷ ys) z = absurd z
  zip_length R (x ∷ xs) [] z = absurd z
  zip_length R (x ∷ xs) (y ∷ ys) z = ap suc (zip_length R xs ys z.1)

  -- sums of sums
  pub sum_swap : (g : A → B → ℕ) (xs : List A) (ys : List B) → sum_by (λ x. sum_by (g x) ys) xs ≡ sum_by (λ y. sum_by (λ x. g x y) xs) ys
  sum_swap g [] ys = sym (sum_zero ys)
  sum_swap g (x ∷ xs) ys =
      let rest = sum_swap g xs ys in
      let both = sum_both (g x) (λ y. sum_by (λ a. g a y) xs) ys in
      let split = sum_same (λ y. sum_by (λ a. g a y) (x ∷ xs)) (λ y. g x y + sum_by (λ a. g a y) xs) ys (λ y h. sum_by-cons (λ a. g a y) x xs) in
      omega (arith, rest, both, split, sum_by-cons (λ a. sum_by (g a) ys) x xs)

-- three parts of each, and 1 besides
module _ {A : Type 0} (e i s : A → ℕ) where
  sum_three : (xs : List A) → ((x : A) → Contains xs x → s x ≡ 1 + e x + i x) → sum_by e xs + sum_by i xs ≤ sum_by s xs
  sum_three [] is = omega arith
  sum_three (x ∷ xs) is =
      let here = is x (in_first x xs) in
      let rest = sum_three xs (λ y h. is y (in_rest x y xs h)) in
      omega (arith, here, rest, sum_by-cons e x xs, sum_by-cons i x xs, sum_by-cons s x xs)

  pub sum_whole : (xs : List A) → ((x : A) → Contains xs x → s x ≡ 1 + e x + i x) → (xs ≡ [] → ⊥) → 1 + sum_by e xs + sum_by i xs ≤ sum_by s xs
  sum_whole [] is some = absurd (some refl)
  sum_whole (x ∷ xs) is some =
      let here = is x (in_first x xs) in
      let rest = sum_three xs (λ y h. is y (in_rest x y xs h)) in
      omega (arith, here, rest, sum_by-cons e x xs, sum_by-cons i x xs, sum_by-cons s x xs)

-- ---- what is found under names

module _ {V : Type 0} (f : V → ℕ) where
  -- what different names find weighs no more than all
  pub sum_found : (ns : List Name) → Differ ns → (xs : List (Name × V)) → sum_by (λ n. option_case (find_name xs n) 0 f) ns ≤ sum_by (λ e. f e.1) xs
  unfolding Differ
  sum_found ns apart [] = let none : sum_by (λ n. option_case (find_name {A = V} [] n) 0 f) ns ≡ 0 = sum_zero ns in omega (arith, none)
  sum_found ns apart (e ∷ xs) =
      let rest = sum_found ns apart xs in
      let here = sum_one (λ n. same_name n e.0) (f e.1) ns one in
      let both = sum_both (λ n. if same_name n e.0 then f e.1 else 0) (λ n. option_case (find_name xs n) 0 f) ns in
      let split = sum_in (λ n. option_case (find_name (e ∷ xs) n) 0 f) (λ n. (if same_name n e.0 then f e.1 else 0) + option_case (find_name xs n) 0 f) ns (λ n h. by (same_name n e.0) (find_name xs n)) in
      omega (arith, rest, here, both, split, sum_by-cons (λ (x : Name × V). f x.1) e xs)
    where
      one : (i j : ℕ) (a b : Name) → slice_get ns i ≡ Some a → slice_get ns j ≡ Some b → same_name a e.0 ≡ true → same_name b e.0 ≡ true → i ≡ j
      one i j a b at also p q = apart i j e.0 (at ∙ ap Some (same_name-true a e.0 p)) (also ∙ ap Some (same_name-true b e.0 q))

      by : (b : Bool) (o : Option V) → option_case (if b then Some e.1 else o) 0 f ≤ (if b then f e.1 else 0) + option_case o 0 f
      by true o = omega arith
      by false o = omega arith

-- ---- names that are listed one after another

-- the names of a list and of more items weigh no more than both
with_weight : (ns : List Name) (es : List (Name × ItemKind)) → sum_by label (with_names ns es) ≤ sum_by label ns + named_parts es
with_weight ns [] = omega arith
with_weight ns (e ∷ es) =
    let rest = with_weight (if list_any (same_name e.0) ns then ns else ns ++ e.0 ∷ []) es in
    let here = by (list_any (same_name e.0) ns) in
    omega (arith, rest, here, sum_by-cons (named_part {A = ItemKind}) e es)
  where
    by : (b : Bool) → sum_by label (if b then ns else ns ++ e.0 ∷ []) ≤ sum_by label ns + label e.0
    by true = omega arith
    by false = let one = sum_by-append label ns (e.0 ∷ []) in let last = sum_by-cons label e.0 [] in let none : sum_by label [] ≡ 0 = refl in omega (arith, one, last, none)

pub behind_weight : (ns : List Name) (ls : List (List (Name × ItemKind))) → sum_by label (names_behind ns ls) ≤ sum_by label ns + sum_by named_parts ls
behind_weight ns [] = omega arith
behind_weight ns (es ∷ ls) =
    let first = with_weight ns es in
    let rest = behind_weight (with_names ns es) ls in
    omega (arith, first, rest, sum_by-cons (named_parts {A = ItemKind}) es ls)

none_differ : Differ {A = Name} []
unfolding Differ
none_differ i j x at also = absurd (no_some x at)

-- names that stand once differ
pub once_differ : (ns : List Name) → AreOnce ns → Differ ns
once_differ [] once = none_differ
once_differ (n ∷ ns) once = differ_more n ns new (once_differ ns once.1)
  where
    new : Contains ns n → ⊥
    new h =
        let (k, low, at) = in_at ns n h in
        let apart = none-at (same_name n) ns k n once.0 at in
        let no : true ≡ false = sym (same_name-refl n) ∙ apart in cc
