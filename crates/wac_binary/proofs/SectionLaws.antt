-- The sections of a list of items, with one more item at its end.
use Rattle.std.proofs.Common.{◌≡◌, ℕ, ◌+◌, List, [], ◌∷◌, ◌++◌, refl, ap, sym, ◌∙◌, arith, append_assoc, append-nil, Bool, true, false}
use Rattle.std.specs.Prelude.{Option, Some, None, if◌then◌else◌, IfSome, ◌&&◌, eqb}
use Rattle.std.specs.List.{AllByRecursion}
use Rattle.std.proofs.lemmas.Bool.Decides.{nat_tests}
use Rattle.wac_binary.specs.Items.{Item}
use Rattle.wac_binary.specs.Bytes.{Section, alone, joins, joined, sections, sections_from, section_id, is_shared}
use Rattle.wac_binary.specs.Indexes.{indexes, is_in, adds}
use Rattle.wac_binary.specs.Fits.{SectionFits}
use Rattle.wac_binary.specs.private.LastSection.{one, before, next_section, last_after, last_section, finished, finished_from, open_of, closed_of, closed, open_section}

pub last_snoc : (s : Option Section) (xs : List Item) (x : Item) → last_after s (xs ++ x ∷ []) ≡ Some (next_section (last_after s xs) x)
last_snoc s [] x = refl
last_snoc s (y ∷ ys) x = last_snoc (Some (next_section s y)) ys x

pub indexes_snoc : (k : ℕ) (xs : List Item) (x : Item) → indexes k (xs ++ x ∷ []) ≡ indexes k xs + is_in k (adds x)
indexes_snoc k [] x = omega arith
indexes_snoc k (y ∷ ys) x = omega (arith, indexes_snoc k ys x)

abbrev AllFit : List Section → Type 0
AllFit ss = AllByRecursion SectionFits ss

-- the last of these sections
abbrev NextFits : Option Section → Item → Type 0
NextFits s x = SectionFits (next_section s x)

one_more : (s : Section) (x : Item) → SectionFits s → NextFits (Some s) x → AllFit (sections_from s (x ∷ []))
one_more s x h g = elim (joins s x) as (λ b. SectionFits (if b then joined s x else alone x) → AllFit (if b then joined s x ∷ [] else s ∷ alone x ∷ [])) [ true ↦ λ g. (g, tt) | false ↦ λ g. (h, (g, tt)) ] g

pub fits_from : (s : Section) (xs : List Item) (x : Item) → AllFit (sections_from s xs) → IfSome (last_after (Some s) xs) (λ l. SectionFits (next_section (Some l) x)) → AllFit (sections_from s (xs ++ x ∷ []))
fits_from s [] x h g = one_more s x h.0 g
fits_from s (y ∷ ys) x h g =
    elim (joins s y) as (λ b. AllFit (if b then sections_from (joined s y) ys else s ∷ sections_from (alone y) ys)
    → IfSome (last_after (Some (if b then joined s y else alone y)) ys) (λ l. SectionFits (next_section (Some l) x))
    → AllFit (if b then sections_from (joined s y) (ys ++ x ∷ []) else s ∷ sections_from (alone y) (ys ++ x ∷ []))) [
      | true ↦ λ h g. fits_from (joined s y) ys x h g
      | false ↦ λ h g. (h.0, fits_from (alone y) ys x h.1 g)
    ] h g

to_if : (o : Option Section) (x : Item) → SectionFits (next_section o x) → IfSome o (λ l. SectionFits (next_section (Some l) x))
to_if None x g = tt
to_if (Some s) x g = g

pub fits_snoc : (xs : List Item) (x : Item) → AllFit (sections xs) → SectionFits (next_section (last_section xs) x) → AllFit (sections (xs ++ x ∷ []))
fits_snoc [] x h g = (g, tt)
fits_snoc (y ∷ ys) x h g = fits_from (alone y) ys x h (to_if (last_after (Some (alone y)) ys) x g)

-- and back: what fits in the end fitted before
next_fits_one : (s : Section) (x : Item) → AllFit (sections_from s (x ∷ [])) → NextFits (Some s) x
next_fits_one s x h = elim (joins s x) as (λ b. AllFit (if b then joined s x ∷ [] else s ∷ alone x ∷ []) → SectionFits (if b then joined s x else alone x)) [ true ↦ λ h. h.0 | false ↦ λ h. h.1.0 ] h

next_fits_from : (s : Section) (xs : List Item) (x : Item) → AllFit (sections_from s (xs ++ x ∷ [])) → SectionFits (next_section (last_after (Some s) xs) x)
next_fits_from s [] x h = next_fits_one s x h
next_fits_from s (y ∷ ys) x h =
    elim (joins s y) as (λ b. AllFit (if b then sections_from (joined s y) (ys ++ x ∷ []) else s ∷ sections_from (alone y) (ys ++ x ∷ []))
    → SectionFits (next_section (last_after (Some (if b then joined s y else alone y)) ys) x)) [
      | true ↦ λ h. next_fits_from (joined s y) ys x h
      | false ↦ λ h. next_fits_from (alone y) ys x h.1
    ] h

pub next_fits : (xs : List Item) (x : Item) → AllFit (sections (xs ++ x ∷ [])) → SectionFits (next_section (last_section xs) x)
next_fits [] x h = h.0
next_fits (y ∷ ys) x h = next_fits_from (alone y) ys x h

last_fits_from : (s : Section) (xs : List Item) → AllFit (sections_from s xs) → IfSome (last_after (Some s) xs) SectionFits
last_fits_from s [] h = h.0
last_fits_from s (y ∷ ys) h =
    elim (joins s y) as (λ b. AllFit (if b then sections_from (joined s y) ys else s ∷ sections_from (alone y) ys)
    → IfSome (last_after (Some (if b then joined s y else alone y)) ys) SectionFits) [
      | true ↦ λ h. last_fits_from (joined s y) ys h
      | false ↦ λ h. last_fits_from (alone y) ys h.1
    ] h

last_fits : (xs : List Item) → AllFit (sections xs) → IfSome (last_section xs) SectionFits
last_fits [] h = tt
last_fits (y ∷ ys) h = last_fits_from (alone y) ys h

if_open : (s : Section) (b : Bool) → SectionFits s → IfSome (if b then Some s else None) SectionFits
if_open s true h = h
if_open s false h = tt

fits_open : (o : Option Section) → IfSome o SectionFits → IfSome (open_of o) SectionFits
fits_open None h = tt
fits_open (Some s) h = if_open s (is_shared s.id) h

-- the open section of items that fit
pub open_fits : (xs : List Item) → AllFit (sections xs) → IfSome (open_section xs) SectionFits
open_fits xs h = fits_open (last_section xs) (last_fits xs h)

sections_split_from : (s : Section) (xs : List Item) → sections_from s xs ≡ finished_from s xs ++ one (last_after (Some s) xs)
sections_split_from s [] = refl
sections_split_from s (x ∷ xs) =
    elim (joins s x) as (λ b. (if b then sections_from (joined s x) xs else s ∷ sections_from (alone x) xs)
    ≡ (if b then finished_from (joined s x) xs else s ∷ finished_from (alone x) xs) ++ one (last_after (Some (if b then joined s x else alone x)) xs)) [
      | true ↦ sections_split_from (joined s x) xs
      | false ↦ ap (λ t. s ∷ t) (sections_split_from (alone x) xs)
    ]

sections_split : (xs : List Item) → sections xs ≡ finished xs ++ one (last_section xs)
sections_split [] = refl
sections_split (x ∷ xs) = sections_split_from (alone x) xs

one_split : (o : Option Section) → one o ≡ closed_of o ++ one (open_of o)
one_split None = refl
one_split (Some s) = elim (is_shared s.id) as (λ b. s ∷ [] ≡ (if b then [] else s ∷ []) ++ one (if b then Some s else None)) [ true ↦ refl | false ↦ refl ]

-- the sections are those that are closed, and the open one
pub sections_are : (xs : List Item) → sections xs ≡ closed xs ++ one (open_section xs)
sections_are xs = sections_split xs ∙ ap (λ t. finished xs ++ t) (one_split (last_section xs)) ∙ sym (append_assoc (finished xs) (closed_of (last_section xs)) (one (open_section xs)))

finished_snoc_from : (s : Section) (xs : List Item) (x : Item) → finished_from s (xs ++ x ∷ []) ≡ finished_from s xs ++ before (last_after (Some s) xs) x
finished_snoc_from s [] x = refl
finished_snoc_from s (y ∷ ys) x =
    elim (joins s y) as (λ b. (if b then finished_from (joined s y) (ys ++ x ∷ []) else s ∷ finished_from (alone y) (ys ++ x ∷ []))
    ≡ (if b then finished_from (joined s y) ys else s ∷ finished_from (alone y) ys) ++ before (last_after (Some (if b then joined s y else alone y)) ys) x) [
      | true ↦ finished_snoc_from (joined s y) ys x
      | false ↦ ap (λ t. s ∷ t) (finished_snoc_from (alone y) ys x)
    ]

finished_snoc : (xs : List Item) (x : Item) → finished (xs ++ x ∷ []) ≡ finished xs ++ before (last_section xs) x
finished_snoc [] x = refl
finished_snoc (y ∷ ys) x = finished_snoc_from (alone y) ys x

next_open : (o : Option Section) (x : Item) → next_section (open_of o) x ≡ next_section o x
next_open None x = refl
next_open (Some s) x =
    elim (is_shared s.id) as (λ b. is_shared s.id ≡ b → next_section (if b then Some s else None) x ≡ next_section (Some s) x) [
      | true ↦ λ e. refl
      | false ↦ λ e. rw e refl
    ] refl

before_open : (o : Option Section) (x : Item) → closed_of o ++ before (open_of o) x ≡ before o x
before_open None x = refl
before_open (Some s) x =
    elim (is_shared s.id) as (λ b. is_shared s.id ≡ b → (if b then [] else s ∷ []) ++ before (if b then Some s else None) x ≡ before (Some s) x) [
      | true ↦ λ e. refl
      | false ↦ λ e. rw e refl
    ] refl

last_open : (xs : List Item) (x : Item) → last_section (xs ++ x ∷ []) ≡ Some (next_section (open_section xs) x)
last_open xs x = last_snoc None xs x ∙ ap Some (sym (next_open (last_section xs) x))

-- the closed sections and the open one, after one more item
closed_snoc : (xs : List Item) (x : Item) → closed (xs ++ x ∷ []) ≡ (closed xs ++ before (open_section xs) x) ++ closed_of (Some (next_section (open_section xs) x))
closed_snoc xs x =
    (λ i. (finished_snoc xs x ∙ ap (λ t. finished xs ++ t) (sym (before_open (last_section xs) x)) ∙ sym (append_assoc (finished xs) (closed_of (last_section xs)) (before (open_section xs) x))) i ++ closed_of (last_open xs x i))

open_snoc : (xs : List Item) (x : Item) → open_section (xs ++ x ∷ []) ≡ open_of (Some (next_section (open_section xs) x))
open_snoc xs x = ap open_of (last_open xs x)

pub joins_id : (c : Bool) (m n : ℕ) → (c && eqb m n) ≡ true → m ≡ n
joins_id true m n e = grind (arith, nat_tests)
joins_id false m n e = cc

next_id : (o : Option Section) (x : Item) → (next_section o x).id ≡ section_id x
next_id None x = refl
next_id (Some s) x =
    elim (joins s x) as (λ b. joins s x ≡ b → (if b then joined s x else alone x).id ≡ section_id x) [
      | true ↦ λ e. joins_id (is_shared s.id) s.id (section_id x) e
      | false ↦ λ e. refl
    ] refl

-- an item of a section that others may join opens it or joins it
pub closed_shared : (xs : List Item) (x : Item) → is_shared (section_id x) ≡ true → closed (xs ++ x ∷ []) ≡ closed xs ++ before (open_section xs) x
closed_shared xs x h =
    let s : is_shared (next_section (open_section xs) x).id ≡ true = ap is_shared (next_id (open_section xs) x) ∙ h in
    closed_snoc xs x ∙ ap (λ (b : Bool). (closed xs ++ before (open_section xs) x) ++ (if b then [] else next_section (open_section xs) x ∷ [])) s ∙ append-nil (closed xs ++ before (open_section xs) x)

pub open_shared : (xs : List Item) (x : Item) → is_shared (section_id x) ≡ true → open_section (xs ++ x ∷ []) ≡ Some (next_section (open_section xs) x)
open_shared xs x h =
    let s : is_shared (next_section (open_section xs) x).id ≡ true = ap is_shared (next_id (open_section xs) x) ∙ h in
    open_snoc xs x ∙ ap (λ (b : Bool). if b then Some (next_section (open_section xs) x) else None) s

-- an item that has a section of its own closes the open one
not_joined : (c : Bool) (m n : ℕ) → is_shared n ≡ false → (is_shared m && eqb m n) ≡ c → c ≡ false
not_joined true m n h e = let q : m ≡ n = joins_id (is_shared m) m n e in absurd (clash (is_shared m) (eqb m n) e (ap is_shared q ∙ h))
  where
    clash : (b c : Bool) → (b && c) ≡ true → b ≡ false → ⊥
    clash true c e f = cc
    clash false c e f = cc
not_joined false m n h e = refl

next_alone : (o : Option Section) (x : Item) → is_shared (section_id x) ≡ false → (next_section o x ≡ alone x) × (before o x ≡ one o)
next_alone None x h = (refl, refl)
next_alone (Some s) x h =
    let j : joins s x ≡ false = not_joined (joins s x) s.id (section_id x) h refl in
    (rw j refl, rw j refl)

pub closed_alone : (xs : List Item) (x : Item) → is_shared (section_id x) ≡ false → closed (xs ++ x ∷ []) ≡ closed xs ++ (one (open_section xs) ++ alone x ∷ [])
closed_alone xs x h =
    let n = next_alone (open_section xs) x h in
    let s : is_shared (section_id x) ≡ false = h in
    closed_snoc xs x
    ∙ (λ i. (closed xs ++ n.1 i) ++ closed_of (Some (n.0 i)))
    ∙ ap (λ (b : Bool). (closed xs ++ one (open_section xs)) ++ (if b then [] else alone x ∷ [])) s
    ∙ append_assoc (closed xs) (one (open_section xs)) (alone x ∷ [])

pub open_alone : (xs : List Item) (x : Item) → is_shared (section_id x) ≡ false → open_section (xs ++ x ∷ []) ≡ None
open_alone xs x h =
    let n = next_alone (open_section xs) x h in
    open_snoc xs x ∙ ap (λ s. open_of (Some s)) n.0 ∙ ap (λ (b : Bool). if b then Some (alone x) else None) h

-- what fits, with one more item: exactly where the section that it goes to fits
pub fits_more : (xs : List Item) (x : Item) → AllFit (sections xs) → SectionFits (next_section (open_section xs) x) → AllFit (sections (xs ++ x ∷ []))
fits_more xs x h g = fits_snoc xs x h (rw (← next_open (last_section xs) x) g)

pub fits_next : (xs : List Item) (x : Item) → AllFit (sections (xs ++ x ∷ [])) → SectionFits (next_section (open_section xs) x)
fits_next xs x h = rw (next_open (last_section xs) x) (next_fits xs x h)

pub next_is_alone : (o : Option Section) (x : Item) → is_shared (section_id x) ≡ false → next_section o x ≡ alone x
next_is_alone o x h = (next_alone o x h).0
