-- Functions of names and of indexes, case by case.
use Rattle.std.proofs.Common.{ℕ, zero, suc, Bool, true, false, cond, nat_eq, ◌&&◌, ◌≡◌, refl, sym, ap, subst, ◌∙◌, [], ◌∷◌}
use Rattle.std.proofs.Math.Path.{fun_ext}
use Rattle.std.specs.Cmp.Lexicographic.{bytes_decides}
use Rattle.std.specs.Str.{bytes_eq}
use Rattle.wac_types_shapes.specs.primitives.Name.{Name, same_name}

pub both_cond : (p q : Bool) → (p && q) ≡ cond p q false
both_cond true q = refl
both_cond false q = refl

pub same_name-bytes_eq : (a b : Name) → bytes_eq a b ≡ same_name a b
same_name-bytes_eq [] [] = refl
same_name-bytes_eq [] (y ∷ ys) = refl
same_name-bytes_eq (x ∷ xs) [] = refl
same_name-bytes_eq (x ∷ xs) (y ∷ ys) = ap (λ b. nat_eq x y && b) (same_name-bytes_eq xs ys) ∙ both_cond (nat_eq x y) (same_name xs ys)

pub same_name-true : (a b : Name) → same_name a b ≡ true → a ≡ b
same_name-true a b h = (bytes_decides a b).0 (same_name-bytes_eq a b ∙ h)

-- a name is this one, or another
pub split : (P : Name → Type 0) (a : Name) → P a → ((n : Name) → same_name n a ≡ false → P n) → (n : Name) → P n
split P a p q n = by_test (same_name n a) refl
  where
    by_test : (b : Bool) → same_name n a ≡ b → P n
    by_test true h = subst P (sym (same_name-true n a h)) p
    by_test false h = q n h

-- an index is 0, or another
pub first : {A : Type 0} (f g : ℕ → A) → f 0 ≡ g 0 → ((i : ℕ) → f (suc i) ≡ g (suc i)) → f ≡ g
first f g p q = fun_ext cases
  where
    cases : (i : ℕ) → f i ≡ g i
    cases zero = p
    cases (suc i) = q i

-- a name is one of two, or another
pub split2 : (P : Name → Type 0) (a b : Name) → P a → P b → ((n : Name) → same_name n a ≡ false → same_name n b ≡ false → P n) → (n : Name) → P n
split2 P a b p q r = split P a p (split (λ n. same_name n a ≡ false → P n) b (λ h. q) (λ n hb ha. r n ha hb))

pub split3 : (P : Name → Type 0) (a b c : Name) → P a → P b → P c → ((n : Name) → same_name n a ≡ false → same_name n b ≡ false → same_name n c ≡ false → P n) → (n : Name) → P n
split3 P a b c p q s r = split P a p (split2 (λ n. same_name n a ≡ false → P n) b c (λ h. q) (λ h. s) (λ n hb hc ha. r n ha hb hc))

-- functions that agree on names, and are the same on each other name
module _ {A : Type 0} {f g : Name → A} where
  pub names0 : ((n : Name) → f n ≡ g n) → f ≡ g
  names0 r = fun_ext r

  pub names1 : (a : Name) → f a ≡ g a → ((n : Name) → same_name n a ≡ false → f n ≡ g n) → f ≡ g
  names1 a p r = fun_ext (split (λ n. f n ≡ g n) a p r)

  pub names2 : (a b : Name) → f a ≡ g a → f b ≡ g b → ((n : Name) → same_name n a ≡ false → same_name n b ≡ false → f n ≡ g n) → f ≡ g
  names2 a b p q r = fun_ext (split2 (λ n. f n ≡ g n) a b p q r)

  pub names3 : (a b c : Name) → f a ≡ g a → f b ≡ g b → f c ≡ g c → ((n : Name) → same_name n a ≡ false → same_name n b ≡ false → same_name n c ≡ false → f n ≡ g n) → f ≡ g
  names3 a b c p q s r = fun_ext (split3 (λ n. f n ≡ g n) a b c p q s r)
