-- Scopes that are kept from the bottom.
use Rattle.std.specs.Prelude.{ℕ, zero, suc, ◌≡◌, ◌<◌, ◌≤◌, ◌+◌, ◌-◌, Bool, List, [], ◌∷◌, ◌++◌, length, take, Some, None, slice_get, Option, true, false}
use Rattle.std.proofs.Common.{refl, ap, ◌∙◌, sym, subst, arith}
use Rattle.std.proofs.Math.ListN.{drop, set}
use Rattle.std.proofs.Math.Seq.{drop-cons}
use Rattle.std.proofs.lemmas.List.{append_assoc, take-append-drop, length-drop, length-append, drop-set, take-set}
use Rattle.std.proofs.lemmas.Option.{get_or_from_slice_get}
use Rattle.wac_types_shapes.specs.declared.shapes.component.ResourceId.{ResourceId}
use Rattle.wac_encode_scopes.specs.declared.scope.Scope.{Scope}
use Rattle.wac_encode_scopes.specs.Books.{opened}
use Rattle.wac_encode_scopes.specs.States.{outward, IsPlace}
use Rattle.wac_encode_stacks.specs.Scopes.{Where, Open, Stack, next_type, at_type, at_export}
use Rattle.wac_encode_stacks.specs.private.Parts.{IsReached}
use Rattle.wac_encode_stacks.specs.private.Inside.{changed_at, next_type_at}
use Rattle.wac_encode_scopes.specs.private.Steps.{export_of}

pub outward-append : (b : Bool) (xs ys : List Scope) → outward b (xs ++ ys) ≡ outward b ys ++ outward b xs
outward-append b [] ys = sym (append-none (outward b ys))
  where
    append-none : (zs : Stack) → zs ++ [] ≡ zs
    append-none [] = refl
    append-none (z ∷ zs) = ap (λ ws. z ∷ ws) (append-none zs)
outward-append b (x ∷ xs) ys = ap (λ zs. zs ++ opened b x ∷ []) (outward-append b xs ys) ∙ append_assoc (outward b ys) (outward b xs) (opened b x ∷ [])

-- from position n up, and below it
pub outward-at : (b : Bool) (n : ℕ) (ss : List Scope) → outward b ss ≡ outward b (drop n ss) ++ outward b (take n ss)
outward-at b n ss = ap (outward b) (sym (take-append-drop n ss)) ∙ outward-append b (take n ss) (drop n ss)

pub outward-length : (b : Bool) (ss : List Scope) → length (outward b ss) ≡ length ss
outward-length b [] = refl
outward-length b (s ∷ ss) = let a = length-append (outward b ss) (opened b s ∷ []) in let n = outward-length b ss in omega (arith, a, n)

-- none of these has the resource
abbrev pub Passed : ResourceId → Stack → Type 0
Passed r [] = Unit {0}
Passed r (o ∷ os) = (o.binds r ≡ None) × Passed r os

pub passed-both : (r : ResourceId) (xs ys : Stack) → Passed r xs → Passed r ys → Passed r (xs ++ ys)
passed-both r [] ys h g = g
passed-both r (x ∷ xs) ys h g = (h.0, passed-both r xs ys h.1 g)

pub passed-none : (r : ResourceId) (os : Stack) → Passed r os → (k : ℕ) (p : Where) → IsReached os r k p → ⊥
passed-none r [] h k p g = g
passed-none r (o ∷ os) h zero p g = let both : None ≡ Some p = sym h.0 ∙ g in cc
passed-none r (o ∷ os) h (suc k) p g = passed-none r os h.1 k p g.1

-- so many further out, past these
abbrev pub past : Stack → ℕ → ℕ
past [] k = k
past (x ∷ xs) k = suc (past xs k)

pub past-length : (xs : Stack) → past xs zero ≡ length xs
past-length [] = refl
past-length (x ∷ xs) = ap suc (past-length xs)

pub passed-reached : (r : ResourceId) (xs ys : Stack) (k : ℕ) (p : Where) → Passed r xs → IsReached ys r k p → IsReached (xs ++ ys) r (past xs k) p
passed-reached r [] ys k p h g = g
passed-reached r (x ∷ xs) ys k p h g = (h.0, passed-reached r xs ys k p h.1 g)

pub drop-here : (ss : List Scope) (n : ℕ) (s : Scope) → n < length ss → slice_get ss n ≡ Some s → drop n ss ≡ s ∷ drop (suc n) ss
drop-here ss n s lt at = drop-cons ss n s lt ∙ ap (λ x. x ∷ drop (suc n) ss) (get_or_from_slice_get ss n s s at)

-- one more scope was asked, the one at position n, and has it not
pub passes-one : (b : Bool) (r : ResourceId) (o : Open) (ss : List Scope) (n : ℕ) (s : Scope) → n < length ss → slice_get ss n ≡ Some s → (opened b s).binds r ≡ None → Passed r (o ∷ outward b (drop (suc n) ss)) → Passed r (o ∷ outward b (drop n ss))
passes-one b r o ss n s lt at lacks h = (h.0, subst (λ zs. Passed r (outward b zs)) (sym (drop-here ss n s lt at)) (passed-both r (outward b (drop (suc n) ss)) (opened b s ∷ []) h.1 (lacks, tt)))

-- or has it
pub reaches-one : (b : Bool) (r : ResourceId) (o : Open) (ss : List Scope) (n m : ℕ) (s : Scope) (p : Where) → n < length ss → suc n + m ≡ length ss → slice_get ss n ≡ Some s → (opened b s).binds r ≡ Some p → Passed r (o ∷ outward b (drop (suc n) ss)) → IsReached (o ∷ outward b ss) r (suc m) p
reaches-one b r o ss n m s p lt count at has h = (h.0, subst (λ zs. IsReached zs r m p) (sym (split n s at lt)) (subst (λ k. IsReached (outward b (drop (suc n) ss) ++ (opened b s ∷ outward b (take n ss))) r k p) asked (passed-reached r (outward b (drop (suc n) ss)) (opened b s ∷ outward b (take n ss)) zero p h.1 has)))
  where
    split : (n : ℕ) (s : Scope) → slice_get ss n ≡ Some s → n < length ss → outward b ss ≡ outward b (drop (suc n) ss) ++ (opened b s ∷ outward b (take n ss))
    split n s at lt = outward-at b n ss ∙ ap (λ zs. outward b zs ++ outward b (take n ss)) (drop-here ss n s lt at) ∙ append_assoc (outward b (drop (suc n) ss)) (opened b s ∷ []) (outward b (take n ss))

    asked : past (outward b (drop (suc n) ss)) zero ≡ m
    asked = let c = past-length (outward b (drop (suc n) ss)) in let a = outward-length b (drop (suc n) ss) in let d = length-drop (suc n) ss in omega (arith, a, d, c, count)

-- the same, where the position before is known as one less than another
pub reaches-before : (b : Bool) (r : ResourceId) (o : Open) (ss : List Scope) (left m : ℕ) (s : Scope) (p : Where) → zero < left → left + m ≡ length ss → slice_get ss (left - 1) ≡ Some s → (opened b s).binds r ≡ Some p → Passed r (o ∷ outward b (drop left ss)) → IsReached (o ∷ outward b ss) r (m + 1) p
reaches-before b r o ss zero m s p lt count at has h = absurd (omega (arith, lt))
reaches-before b r o ss (suc n) m s p lt count at has h =
    let one : suc m ≡ m + 1 = omega arith in
    let here : suc n - 1 ≡ n = omega arith in
    subst (λ k. IsReached (o ∷ outward b ss) r k p) one (reaches-one b r o ss n m s p (omega (arith, count)) count (subst (λ k. slice_get ss k ≡ Some s) here at) has h)

pub passes-before : (b : Bool) (r : ResourceId) (o : Open) (ss : List Scope) (left m : ℕ) (s : Scope) → zero < left → left + m ≡ length ss → slice_get ss (left - 1) ≡ Some s → (opened b s).binds r ≡ None → Passed r (o ∷ outward b (drop left ss)) → Passed r (o ∷ outward b (drop (left - 1) ss))
passes-before b r o ss zero m s lt count at lacks h = absurd (omega (arith, lt))
passes-before b r o ss (suc n) m s lt count at lacks h =
    let here : suc n - 1 ≡ n = omega arith in
    let back : n ≡ suc n - 1 = omega arith in
    subst (λ k. Passed r (o ∷ outward b (drop k ss))) back (passes-one b r o ss n s (omega (arith, count)) (subst (λ k. slice_get ss k ≡ Some s) here at) lacks h)

-- all were asked
pub passed-all : (b : Bool) (r : ResourceId) (o : Open) (ss : List Scope) (left : ℕ) → left ≤ 0 → Passed r (o ∷ outward b (drop left ss)) → (k : ℕ) (p : Where) → IsReached (o ∷ outward b ss) r k p → ⊥
passed-all b r o ss zero le h = passed-none r (o ∷ outward b ss) h
passed-all b r o ss (suc n) le h = absurd (omega (arith, le))

pub split-at : (b : Bool) (ss : List Scope) (n : ℕ) (s : Scope) → n < length ss → slice_get ss n ≡ Some s → outward b ss ≡ outward b (drop (suc n) ss) ++ (opened b s ∷ outward b (take n ss))
split-at b ss n s lt at = outward-at b n ss ∙ ap (λ zs. outward b zs ++ outward b (take n ss)) (drop-here ss n s lt at) ∙ append_assoc (outward b (drop (suc n) ss)) (opened b s ∷ []) (outward b (take n ss))

changed-past : (f : Open → Open) (xs : Stack) (y : Open) (ys : Stack) → changed_at (past xs zero) f (xs ++ y ∷ ys) ≡ xs ++ f y ∷ ys
changed-past f [] y ys = refl
changed-past f (x ∷ xs) y ys = ap (λ zs. x ∷ zs) (changed-past f xs y ys)

-- a scope that is kept at a position is so many out
pub asked-at : (b : Bool) (ss : List Scope) (n m : ℕ) → n + suc m ≡ length ss → past (outward b (drop (suc n) ss)) zero ≡ m
asked-at b ss n m count = let c = past-length (outward b (drop (suc n) ss)) in let a = outward-length b (drop (suc n) ss) in let d = length-drop (suc n) ss in omega (arith, a, d, c, count)

pub set-outward : (b : Bool) (ss : List Scope) (n : ℕ) (s : Scope) → n < length ss → outward b (set ss n s) ≡ outward b (drop (suc n) ss) ++ (opened b s ∷ outward b (take n ss))
set-outward b ss n s lt =
    let one : n + 1 ≡ suc n = omega arith in
    outward-at b n (set ss n s)
    ∙ ap (λ zs. outward b zs ++ outward b (take n (set ss n s))) (drop-set ss n s lt)
    ∙ ap (λ zs. (outward b (drop (n + 1) ss) ++ opened b s ∷ []) ++ outward b zs) (take-set ss n s)
    ∙ ap (λ k. (outward b (drop k ss) ++ opened b s ∷ []) ++ outward b (take n ss)) one
    ∙ append_assoc (outward b (drop (suc n) ss)) (opened b s ∷ []) (outward b (take n ss))

pub changed-there : (b : Bool) (ss : List Scope) (n out : ℕ) (s s' : Scope) (f : Open → Open) (o : Open) → zero < out → n + out ≡ length ss → slice_get ss n ≡ Some s → opened b s' ≡ f (opened b s) → o ∷ outward b (set ss n s') ≡ changed_at out f (o ∷ outward b ss)
changed-there b ss n zero s s' f o lt count at is = absurd (omega (arith, lt))
changed-there b ss n (suc m) s s' f o lt count at is =
    let below : n < length ss = omega (arith, count) in
    let xs = outward b (drop (suc n) ss) in
    let ys = outward b (take n ss) in
    ap (λ zs. o ∷ zs) (set-outward b ss n s' below ∙ ap (λ y. xs ++ y ∷ ys) is ∙ sym (changed-past f xs (opened b s) ys) ∙ ap (λ k. changed_at k f (xs ++ opened b s ∷ ys)) (asked-at b ss n m count) ∙ ap (changed_at m f) (sym (split-at b ss n s below at)))

-- what is reached is no further out than there are scopes
reached-below : (os : Stack) (r : ResourceId) (k : ℕ) (p : Where) → IsReached os r k p → k < length os
reached-below [] r k p h = absurd h
reached-below (o ∷ os) r zero p h = omega arith
reached-below (o ∷ os) r (suc k) p h = let n = reached-below os r k p h.1 in omega (arith, n)

pub reached-within : (b : Bool) (o : Open) (ss : List Scope) (r : ResourceId) (k : ℕ) (p : Where) → IsReached (o ∷ outward b ss) r k p → k ≤ length ss
reached-within b o ss r k p h = let n = reached-below (o ∷ outward b ss) r k p h in let l = outward-length b ss in omega (arith, n, l)

pub positive : (n : ℕ) → (n ≡ 0 → ⊥) → zero < n
positive zero h = absurd (h refl)
positive (suc n) h = omega arith

-- what is so many out, past the innermost, is in the scope at a position
pub past-reached : (r : ResourceId) (xs ys : Stack) (w : Where) → IsReached (xs ++ ys) r (past xs zero) w → IsReached ys r zero w
past-reached r [] ys w h = h
past-reached r (x ∷ xs) ys w h = past-reached r xs ys w h.1

pub reached-there : (b : Bool) (ss : List Scope) (n out : ℕ) (s : Scope) (o : Open) (r : ResourceId) (w : Where) → zero < out → n + out ≡ length ss → slice_get ss n ≡ Some s → IsReached (o ∷ outward b ss) r out w → (opened b s).binds r ≡ Some w
reached-there b ss n zero s o r w lt count at h = absurd (omega (arith, lt))
reached-there b ss n (suc m) s o r w lt count at h =
    let below : n < length ss = omega (arith, count) in
    let xs = outward b (drop (suc n) ss) in
    let ys = outward b (take n ss) in
    past-reached r xs (opened b s ∷ ys) w (subst (λ k. IsReached (xs ++ opened b s ∷ ys) r k w) (sym (asked-at b ss n m count)) (subst (λ zs. IsReached zs r m w) (split-at b ss n s below at) h.1))

next-past : (xs : Stack) (y : Open) (ys : Stack) → next_type_at (past xs zero) (xs ++ y ∷ ys) ≡ next_type y
next-past [] y ys = refl
next-past (x ∷ xs) y ys = next-past xs y ys

pub next-there : (b : Bool) (ss : List Scope) (n out : ℕ) (s : Scope) (o : Open) → zero < out → n + out ≡ length ss → slice_get ss n ≡ Some s → next_type (opened b s) ≡ next_type_at out (o ∷ outward b ss)
next-there b ss n zero s o lt count at = absurd (omega (arith, lt))
next-there b ss n (suc m) s o lt count at =
    let below : n < length ss = omega (arith, count) in
    let xs = outward b (drop (suc n) ss) in
    let ys = outward b (take n ss) in
    sym (next-past xs (opened b s) ys) ∙ ap (λ k. next_type_at k (xs ++ opened b s ∷ ys)) (asked-at b ss n m count) ∙ ap (next_type_at m) (sym (split-at b ss n s below at))

-- where a resource is, as the code has it
pair-same : (x y : ℕ × Bool) → ◌≡◌ {A = Option (ℕ × Bool)} (Some x) (Some y) → x ≡ y
pair-same x y h = cc

pub place-found : (o : Option Where) (k : ℕ) (is_type : Bool) → ◌≡◌ {A = Option (ℕ × Bool)} (export_of o) (Some (k, is_type)) → (w : Where) × (o ≡ Some w) × IsPlace w k is_type
place-found None k is_type h = let no_some : ◌≡◌ {A = Option (ℕ × Bool)} None (Some (k, is_type)) = h in cc
place-found (Some (at_type i)) k is_type h = let same = pair-same (i, true) (k, is_type) h in (at_type i, refl, (sym (ap (λ (x : ℕ × Bool). x.0) same), sym (ap (λ (x : ℕ × Bool). x.1) same)))
place-found (Some (at_export j n)) k is_type h = let same = pair-same (j, false) (k, is_type) h in (at_export j n, refl, (sym (ap (λ (x : ℕ × Bool). x.0) same), sym (ap (λ (x : ℕ × Bool). x.1) same)))

pub place-none : (o : Option Where) → ◌≡◌ {A = Option (ℕ × Bool)} (export_of o) None → o ≡ None
place-none None h = refl
place-none (Some (at_type i)) h = let no_some : ◌≡◌ {A = Option (ℕ × Bool)} (Some (i, true)) None = h in cc
place-none (Some (at_export j n)) h = let no_some : ◌≡◌ {A = Option (ℕ × Bool)} (Some (j, false)) None = h in cc
