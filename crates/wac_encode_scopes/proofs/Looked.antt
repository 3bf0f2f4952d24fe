-- What is looked up from the innermost scope outwards.
use Rattle.std.specs.Prelude.{ℕ, zero, suc, ◌≡◌, ◌<◌, ◌≤◌, ◌+◌, ◌-◌, Bool, List, [], ◌∷◌, ◌++◌, length, take, Some, None, slice_get, Option, true, false}
use Rattle.std.proofs.Common.{ap, ◌∙◌, sym, subst, arith, ⊎_elim}
use Rattle.std.proofs.Math.ListN.{drop}
use Rattle.std.proofs.lemmas.List.{append_assoc, length-drop}
use Rattle.wac_types_shapes.specs.declared.shapes.component.ValueType.TheVariants as val
use Rattle.wac_types_shapes.specs.declared.shapes.component.«Type».TheVariants as ty
use Rattle.wac_encode_scopes.specs.declared.scope.Scope.{Scope}
use Rattle.wac_encode_scopes.specs.Books.{opened}
use Rattle.wac_encode_scopes.specs.States.{outward, named_in, IsNamedAt, named_by, named_of, Crosses}
use Rattle.wac_encode_stacks.specs.Scopes.{Where, Open, Stack, at_type, at_export, How, defined, brought, listed, Indexed}
use Rattle.wac_types_shapes.specs.declared.shapes.component.DefinedTypeId.{DefinedTypeId}
use Rattle.wac_encode_stacks.specs.private.Brought.{AllPass}
use Rattle.wac_encode_scopes.proofs.Outward.{outward-at, outward-length, past, past-length, split-at, asked-at, drop-here}
use Rattle.wac_types_shapes.specs.primitives.Name.{Name}

-- the innermost scope that has something is so many out, and there it is
abbrev pub Found : (Open → Option Where) → Stack → ℕ → Where → Type 0
Found look [] k w = ⊥
Found look (o ∷ os) zero w = look o ≡ Some w
Found look (o ∷ os) (suc k) w = (look o ≡ None) × Found look os k w

-- none of these has the resource
abbrev pub PassedBy : (Open → Option Where) → Stack → Type 0
PassedBy look [] = Unit {0}
PassedBy look (o ∷ os) = (look o ≡ None) × PassedBy look os

pub passed-by-both : (look : Open → Option Where) (xs ys : Stack) → PassedBy look xs → PassedBy look ys → PassedBy look (xs ++ ys)
passed-by-both look [] ys h g = g
passed-by-both look (x ∷ xs) ys h g = (h.0, passed-by-both look xs ys h.1 g)

pub passed-found : (look : Open → Option Where) (xs ys : Stack) (k : ℕ) (p : Where) → PassedBy look xs → Found look ys k p → Found look (xs ++ ys) (past xs k) p
passed-found look [] ys k p h g = g
passed-found look (x ∷ xs) ys k p h g = (h.0, passed-found look xs ys k p h.1 g)

-- one more scope was asked, the one at position n, and has it not
pub passes-by-one : (b : Bool) (look : Open → Option Where) (o : Open) (ss : List Scope) (n : ℕ) (s : Scope) → n < length ss → slice_get ss n ≡ Some s → look (opened b s) ≡ None → PassedBy look (o ∷ outward b (drop (suc n) ss)) → PassedBy look (o ∷ outward b (drop n ss))
passes-by-one b look o ss n s lt at lacks h = (h.0, subst (λ zs. PassedBy look (outward b zs)) (sym (drop-here ss n s lt at)) (passed-by-both look (outward b (drop (suc n) ss)) (opened b s ∷ []) h.1 (lacks, tt)))

-- or has it
pub found-one : (b : Bool) (look : Open → Option Where) (o : Open) (ss : List Scope) (n m : ℕ) (s : Scope) (p : Where) → n < length ss → suc n + m ≡ length ss → slice_get ss n ≡ Some s → look (opened b s) ≡ Some p → PassedBy look (o ∷ outward b (drop (suc n) ss)) → Found look (o ∷ outward b ss) (suc m) p
found-one b look o ss n m s p lt count at has h = (h.0, subst (λ zs. Found look zs m p) (sym (split n s at lt)) (subst (λ k. Found look (outward b (drop (suc n) ss) ++ (opened b s ∷ outward b (take n ss))) k p) asked (passed-found look (outward b (drop (suc n) ss)) (opened b s ∷ outward b (take n ss)) zero p h.1 has)))
  where
    split : (n : ℕ) (s : Scope) → slice_get ss n ≡ Some s → n < length ss → outward b ss ≡ outward b (drop (suc n) ss) ++ (opened b s ∷ outward b (take n ss))
    split n s at lt = outward-at b n ss ∙ ap (λ zs. outward b zs ++ outward b (take n ss)) (drop-here ss n s lt at) ∙ append_assoc (outward b (drop (suc n) ss)) (opened b s ∷ []) (outward b (take n ss))

    asked : past (outward b (drop (suc n) ss)) zero ≡ m
    asked = let c = past-length (outward b (drop (suc n) ss)) in let a = outward-length b (drop (suc n) ss) in let d = length-drop (suc n) ss in omega (arith, a, d, c, count)

-- the same, where the position before is known as one less than another
pub found-before : (b : Bool) (look : Open → Option Where) (o : Open) (ss : List Scope) (left m : ℕ) (s : Scope) (p : Where) → zero < left → left + m ≡ length ss → slice_get ss (left - 1) ≡ Some s → look (opened b s) ≡ Some p → PassedBy look (o ∷ outward b (drop left ss)) → Found look (o ∷ outward b ss) (m + 1) p
found-before b look o ss zero m s p lt count at has h = absurd (omega (arith, lt))
found-before b look o ss (suc n) m s p lt count at has h =
    let one : suc m ≡ m + 1 = omega arith in
    let here : suc n - 1 ≡ n = omega arith in
    subst (λ k. Found look (o ∷ outward b ss) k p) one (found-one b look o ss n m s p (omega (arith, count)) count (subst (λ k. slice_get ss k ≡ Some s) here at) has h)

pub passes-by-before : (b : Bool) (look : Open → Option Where) (o : Open) (ss : List Scope) (left m : ℕ) (s : Scope) → zero < left → left + m ≡ length ss → slice_get ss (left - 1) ≡ Some s → look (opened b s) ≡ None → PassedBy look (o ∷ outward b (drop left ss)) → PassedBy look (o ∷ outward b (drop (left - 1) ss))
passes-by-before b look o ss zero m s lt count at lacks h = absurd (omega (arith, lt))
passes-by-before b look o ss (suc n) m s lt count at lacks h =
    let here : suc n - 1 ≡ n = omega arith in
    let back : n ≡ suc n - 1 = omega arith in
    subst (λ k. PassedBy look (o ∷ outward b (drop k ss))) back (passes-by-one b look o ss n s (omega (arith, count)) (subst (λ k. slice_get ss k ≡ Some s) here at) lacks h)

-- what is reached is no further out than there are scopes
found-below : (os : Stack) (look : Open → Option Where) (k : ℕ) (p : Where) → Found look os k p → k < length os
found-below [] look k p h = absurd h
found-below (o ∷ os) look zero p h = omega arith
found-below (o ∷ os) look (suc k) p h = let n = found-below os look k p h.1 in omega (arith, n)

pub found-within : (b : Bool) (o : Open) (ss : List Scope) (look : Open → Option Where) (k : ℕ) (p : Where) → Found look (o ∷ outward b ss) k p → k ≤ length ss
found-within b o ss look k p h = let n = found-below (o ∷ outward b ss) look k p h in let l = outward-length b ss in omega (arith, n, l)

-- what is so many out, past the innermost, is in the scope at a position
pub past-found : (look : Open → Option Where) (xs ys : Stack) (w : Where) → Found look (xs ++ ys) (past xs zero) w → Found look ys zero w
past-found look [] ys w h = h
past-found look (x ∷ xs) ys w h = past-found look xs ys w h.1

pub found-there : (b : Bool) (ss : List Scope) (n out : ℕ) (s : Scope) (o : Open) (look : Open → Option Where) (w : Where) → zero < out → n + out ≡ length ss → slice_get ss n ≡ Some s → Found look (o ∷ outward b ss) out w → look (opened b s) ≡ Some w
found-there b ss n zero s o look w lt count at h = absurd (omega (arith, lt))
found-there b ss n (suc m) s o look w lt count at h =
    let below : n < length ss = omega (arith, count) in
    let xs = outward b (drop (suc n) ss) in
    let ys = outward b (take n ss) in
    past-found look xs (opened b s ∷ ys) w (subst (λ k. Found look (xs ++ opened b s ∷ ys) k w) (sym (asked-at b ss n m count)) (subst (λ zs. Found look zs m w) (split-at b ss n s below at) h.1))

-- what is named is so looked up
pub found-named : (d : DefinedTypeId) (st : Stack) (k : ℕ) (w : Where) → Found (named_in d) st k w → IsNamedAt st d k w
found-named d [] k w h = h
found-named d (o ∷ os) zero w h = h
found-named d (o ∷ os) (suc k) w h = (h.0, found-named d os k w h.1)

pub named-found : (d : DefinedTypeId) (st : Stack) (k : ℕ) (w : Where) → IsNamedAt st d k w → Found (named_in d) st k w
named-found d [] k w h = h
named-found d (o ∷ os) zero w h = h
named-found d (o ∷ os) (suc k) w h = (h.0, named-found d os k w h.1)

-- all of these pass
abbrev pub EachPasses : Stack → Type 0
EachPasses [] = Unit {0}
EachPasses (o ∷ os) = (o.passes ≡ true) × EachPasses os

each-both : (xs ys : Stack) → EachPasses xs → EachPasses ys → EachPasses (xs ++ ys)
each-both [] ys h g = g
each-both (x ∷ xs) ys h g = (h.0, each-both xs ys h.1 g)

pub each-one : (b : Bool) (o : Open) (ss : List Scope) (left : ℕ) (s : Scope) → zero < left → left ≤ length ss → slice_get ss (left - 1) ≡ Some s → (opened b s).passes ≡ true → EachPasses (o ∷ outward b (drop left ss)) → EachPasses (o ∷ outward b (drop (left - 1) ss))
each-one b o ss zero s lt le at p h = absurd (omega (arith, lt))
each-one b o ss (suc n) s lt le at p h =
    let here : suc n - 1 ≡ n = omega arith in
    let back : n ≡ suc n - 1 = omega arith in
    subst (λ k. EachPasses (o ∷ outward b (drop k ss))) back (h.0, subst (λ zs. EachPasses (outward b zs)) (sym (drop-here ss n s (omega (arith, le)) (subst (λ k. slice_get ss k ≡ Some s) here at))) (each-both (outward b (drop (suc n) ss)) (opened b s ∷ []) h.1 (p, tt)))

each-past : (xs ys : Stack) → EachPasses xs → AllPass (past xs zero) (xs ++ ys)
each-past [] ys h = tt
each-past (x ∷ xs) ys h = (h.0, each-past xs ys h.1)

-- so all before the scope at a position pass
pub each-crossed : (b : Bool) (o : Open) (ss : List Scope) (left out : ℕ) → zero < left → left + out ≡ length ss → EachPasses (o ∷ outward b (drop left ss)) → AllPass (out + 1) (o ∷ outward b ss)
each-crossed b o ss left out lt count h =
    let one : suc out ≡ out + 1 = omega arith in
    let c = past-length (outward b (drop left ss)) in
    let a = outward-length b (drop left ss) in
    let d = length-drop left ss in
    let asked : past (outward b (drop left ss)) zero ≡ out = omega (arith, a, d, c, count) in
    subst (λ k. AllPass k (o ∷ outward b ss)) one (h.0, subst (λ zs. AllPass out zs) (sym (outward-at b left ss)) (subst (λ k. AllPass k (outward b (drop left ss) ++ outward b (take left ss))) asked (each-past (outward b (drop left ss)) (outward b (take left ss)) h.1)))

-- what has a name as an instance's export is so recorded
by-how : (how : How) (i j : ℕ) (n : Name) (w : Option Where) → named_by how i w ≡ Some (at_export j n) → w ≡ Some (at_export j n)
by-how defined i j n w h = h
by-how brought i j n w h = let no_type : Some (at_type i) ≡ Some (at_export j n) = h in cc
by-how listed i j n w h = let no_type : Some (at_type i) ≡ Some (at_export j n) = h in cc

of-export : (x : Option Indexed) (j : ℕ) (n : Name) (w : Option Where) → named_of x w ≡ Some (at_export j n) → w ≡ Some (at_export j n)
of-export None j n w h = h
of-export (Some x) j n w h = by-how x.how x.index j n w h

pub exported-there : (d : DefinedTypeId) (o : Open) (j : ℕ) (n : Name) → named_in d o ≡ Some (at_export j n) → o.exports d ≡ Some (at_export j n)
exported-there d o j n h = of-export (o.types (ty.Value (val.Defined d))) j n (o.exports d) h

-- what is found in none of these has no name there
passed-named : (d : DefinedTypeId) (st : Stack) → PassedBy (named_in d) st → (k : ℕ) (w : Where) → IsNamedAt st d k w → ⊥
passed-named d [] p k w n = n
passed-named d (o ∷ os) p zero w n = let both : None ≡ Some w = sym p.0 ∙ n in cc
passed-named d (o ∷ os) p (suc k) w n = passed-named d os p.1 k w n.1

pub none-named : (b : Bool) (d : DefinedTypeId) (o : Open) (ss : List Scope) (left : ℕ) → left ≤ 0 → PassedBy (named_in d) (o ∷ outward b (drop left ss)) → (k : ℕ) (w : Where) → IsNamedAt (o ∷ outward b ss) d k w → ⊥
none-named b d o ss zero le p k w n = passed-named d (o ∷ outward b ss) p k w n
none-named b d o ss (suc m) le p k w n = absurd (omega (arith, le))

-- what is named past these is crossed only if they pass
named-past : (d : DefinedTypeId) (xs ys : Stack) (k : ℕ) (w : Where) → PassedBy (named_in d) xs → IsNamedAt (xs ++ ys) d k w → AllPass k (xs ++ ys) → EachPasses xs
named-past d [] ys k w p n a = tt
named-past d (x ∷ xs) ys zero w p n a = let both : None ≡ Some w = sym p.0 ∙ n in cc
named-past d (x ∷ xs) ys (suc k) w p n a = (a.0, named-past d xs ys k w p.1 n.1 a.1)

pub none-crossed : (b is_closed : Bool) (d : DefinedTypeId) (o : Open) (ss : List Scope) (left : ℕ) → PassedBy (named_in d) (o ∷ outward b (drop left ss)) → (is_closed ≡ false) × (EachPasses (o ∷ outward b (drop left ss)) → ⊥) → (k : ℕ) (w : Where) → IsNamedAt (o ∷ outward b ss) d k w → Crosses is_closed k (o ∷ outward b ss) → ⊥
none-crossed b is_closed d o ss left p stopped k w n x = ⊎_elim both (λ pass. stopped.1 (named-past d (o ∷ outward b (drop left ss)) (outward b (take left ss)) k w p (subst (λ zs. IsNamedAt (o ∷ zs) d k w) (outward-at b left ss) n) (subst (λ zs. AllPass k (o ∷ zs)) (outward-at b left ss) pass))) x
  where
    both : is_closed ≡ true → ⊥
    both closed = let no : false ≡ true = sym stopped.0 ∙ closed in cc

-- a scope that does not pass is among these
each-last : (xs ys : Stack) → EachPasses (xs ++ ys) → EachPasses ys
each-last [] ys h = h
each-last (x ∷ xs) ys h = each-last xs ys h.1

pub each-stopped : (b : Bool) (o : Open) (ss : List Scope) (left : ℕ) (s : Scope) → zero < left → left ≤ length ss → slice_get ss (left - 1) ≡ Some s → (opened b s).passes ≡ false → EachPasses (o ∷ outward b (drop (left - 1) ss)) → ⊥
each-stopped b o ss zero s lt le at p h = absurd (omega (arith, lt))
each-stopped b o ss (suc n) s lt le at p h =
    let here : suc n - 1 ≡ n = omega arith in
    let all = subst (λ k. EachPasses (o ∷ outward b (drop k ss))) here h in
    let last = each-last (outward b (drop (suc n) ss)) (opened b s ∷ []) (subst (λ zs. EachPasses (outward b zs)) (drop-here ss n s (omega (arith, le)) (subst (λ k. slice_get ss k ≡ Some s) here at)) all.1) in
    let both : false ≡ true = sym p ∙ last.0 in
    cc

pub stops-here : (o : Open) (os : Stack) → o.passes ≡ false → EachPasses (o ∷ os) → ⊥
stops-here o os p h = let both : false ≡ true = sym p ∙ h.0 in cc
