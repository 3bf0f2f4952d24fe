-- What is read as a range is a range whose text this is, and each range is read back.
use Rattle.std.proofs.Common.{◌≡◌, ℕ, Bool, true, false, ◌&&◌, List, [], ◌∷◌, ◌++◌, codes, Option, Some, None, Ok, Err, refl, sym, ap, ◌∙◌, inl, inr, append_assoc, subst}
use Rattle.std.proofs.lemmas.Bool.{and_parts, cases_Bool, false≢true}
use Rattle.wac_names.specs.Text.{after, before, begins, behind, ends, front, has, is_empty}
use Rattle.wac_names.specs.Kind.{Range, any, at_least, below, between, range_text}
use Rattle.wac_names.specs.Grammar.{IsRange, IsVersion, is_version}
use Rattle.wac_names.specs.Faults.{IfVersioned, IsRangeText, Must}
use Rattle.wac_names.specs.Reading.{Read, needs, read_from, read_range, read_range_piece, version_piece, with}
use Rattle.wac_names.specs.declared.fault.NameFault.{NameFault}
use Rattle.wac_names.specs.declared.fault.NameFault.TheVariants as fault
use Rattle.wac_names.proofs.ReadFacts.{Iff, bad, ok, if-false, if-true, needs-ok, needs-true, ok-value}
use Rattle.wac_names.proofs.TextFacts.{after-there, before-there, begins-whole, cut-whole, ends-there, ends-whole, front-there, has-there, is_empty-nil}
use Rattle.wac_names.proofs.VersionFacts.{version-lacks}

-- a range that was read has this text
pub record IsRead (r : Range) (text : List ℕ) : Type 0 where
  pub allowed : IsRange r
  pub makes : range_text r ≡ text

braced : (start text inside rest : List ℕ) → text ≡ start ++ rest → rest ≡ inside ++ 125 ∷ [] → start ++ (inside ++ 125 ∷ []) ≡ text
braced start text inside rest e f = ap (λ (l : List ℕ). start ++ l) (sym f) ∙ sym e

-- what was read between the braces
from-read : (text : List ℕ) (r : Range) → read_from text ≡ Ok r → IsRead r (codes "{>=" ++ (text ++ codes "}"))
unfolding read_from
from-read text r e = elim (cases_Bool (has 32 text)) [
  | inl there ↦
      let e1 = sym (if-true (has 32 text) _ _ there) ∙ e in
      let n1 = needs-ok (begins (60 ∷ []) (after 32 text)) fault.BadRange _ r e1 in
      let n2 = needs-ok (is_version (before 32 text)) fault.BadRange _ r n1.1 in
      let n3 = needs-ok (is_version (behind (60 ∷ []) (after 32 text))) fault.BadRange _ r n2.1 in
      let made = ok-value (between (before 32 text) (behind (60 ∷ []) (after 32 text))) r n3.1 in
      let whole : text ≡ before 32 text ++ 32 ∷ 60 ∷ behind (60 ∷ []) (after 32 text) =
      cut-whole 32 text there ∙ ap (λ (l : List ℕ). before 32 text ++ 32 ∷ l) (begins-whole (60 ∷ []) (after 32 text) n1.0) in
      let body : before 32 text ++ 32 ∷ 60 ∷ (behind (60 ∷ []) (after 32 text) ++ codes "}") ≡ text ++ codes "}" =
      sym (append_assoc (before 32 text) (32 ∷ 60 ∷ behind (60 ∷ []) (after 32 text)) (codes "}")) ∙ ap (λ (l : List ℕ). l ++ codes "}") (sym whole) in
      subst (λ (q : Range). IsRead q (codes "{>=" ++ (text ++ codes "}"))) made
      (record { allowed = (n2.0, n3.0); makes = ap (λ (l : List ℕ). codes "{>=" ++ l) body })
  | inr absent ↦
      let e1 = sym (if-false (has 32 text) _ _ absent) ∙ e in
      let n1 = needs-ok (is_version text) fault.BadRange _ r e1 in
      let made = ok-value (at_least text) r n1.1 in
      subst (λ (q : Range). IsRead q (codes "{>=" ++ (text ++ codes "}"))) made (record { allowed = n1.0; makes = refl })
]

pub range-read : (text : List ℕ) (r : Range) → read_range text ≡ Ok r → IsRead r text
unfolding read_range
range-read text r e = elim (cases_Bool (begins (codes "{>=") text)) [
  | inl from ↦
      let rest = behind (codes "{>=") text in
      let e1 = sym (if-true (begins (codes "{>=") text) _ _ from) ∙ e in
      let n1 = needs-ok (ends 125 rest) fault.BadRange _ r e1 in
      let i = from-read (front rest) r n1.1 in
      record { allowed = i.allowed; makes = i.makes ∙ braced (codes "{>=") text (front rest) rest (begins-whole (codes "{>=") text from) (ends-whole 125 rest n1.0) }
  | inr other ↦ elim (cases_Bool (begins (codes "{<") text)) [
    | inl under ↦
        let rest = behind (codes "{<") text in
        let e1 = sym (if-true (begins (codes "{<") text) _ _ under) ∙ (sym (if-false (begins (codes "{>=") text) _ _ other) ∙ e) in
        let n1 = needs-ok (ends 125 rest) fault.BadRange _ r e1 in
        let n2 = needs-ok (is_version (front rest)) fault.BadRange _ r n1.1 in
        let made = ok-value (below (front rest)) r n2.1 in
        subst (λ (q : Range). IsRead q text) made
        (record { allowed = n2.0; makes = braced (codes "{<") text (front rest) rest (begins-whole (codes "{<") text under) (ends-whole 125 rest n1.0) })
    | inr neither ↦
        let e1 = sym (if-false (begins (codes "{<") text) _ _ neither) ∙ (sym (if-false (begins (codes "{>=") text) _ _ other) ∙ e) in
        let n1 = needs-ok (begins (codes "*") text && is_empty (behind (codes "*") text)) fault.BadRange _ r e1 in
        let p = and_parts (begins (codes "*") text) (is_empty (behind (codes "*") text)) n1.0 in
        let made = ok-value any r n1.1 in
        let whole : text ≡ codes "*" = begins-whole (codes "*") text p.0 ∙ ap (λ (l : List ℕ). codes "*" ++ l) (is_empty-nil (behind (codes "*") text) p.1) in
        subst (λ (q : Range). IsRead q text) made (record { allowed = tt; makes = sym whole })
  ]
]

read-from_low : (low : List ℕ) → IsVersion low → read_from low ≡ Ok (at_least low)
unfolding read_from
read-from_low low v = rw (version-lacks 32 low v refl) (needs-true (is_version low) fault.BadRange (Ok (at_least low)) v)

read-from_both : (low high : List ℕ) → IsVersion low → IsVersion high → read_from (low ++ 32 ∷ 60 ∷ high) ≡ Ok (between low high)
unfolding read_from begins
read-from_both low high v w =
    let lacks = version-lacks 32 low v refl in
    rw (has-there 32 low (60 ∷ high), before-there 32 low (60 ∷ high) lacks, after-there 32 low (60 ∷ high) lacks)
    (needs-true (is_version low) fault.BadRange _ v ∙ needs-true (is_version high) fault.BadRange _ w)

-- a range is read back from its text
pub read-range_text : (r : Range) → IsRange r → read_range (range_text r) ≡ Ok r
unfolding read_range begins
read-range_text any v = refl
read-range_text (at_least low) v = rw (ends-there 125 low, front-there 125 low) (read-from_low low v)
read-range_text (below high) v = rw (ends-there 125 high, front-there 125 high) (needs-true (is_version high) fault.BadRange (Ok (below high)) v)
read-range_text (between low high) v =
    let e : low ++ 32 ∷ 60 ∷ (high ++ codes "}") ≡ (low ++ 32 ∷ 60 ∷ high) ++ 125 ∷ [] = sym (append_assoc low (32 ∷ 60 ∷ high) (codes "}")) in
    rw (e, ends-there 125 (low ++ 32 ∷ 60 ∷ high), front-there 125 (low ++ 32 ∷ 60 ∷ high)) (read-from_both low high v.0 v.1)

-- ---- the one fault of a range

needs-only : {A : Type 0} (b : Bool) (g f : NameFault) (r : Read A) → needs b g r ≡ Err f → ((r ≡ Err f) → f ≡ g) → f ≡ g
needs-only true g f r e k = k e
needs-only false g f r e k = cc

from-only : (f : NameFault) (text : List ℕ) → read_from text ≡ Err f → f ≡ fault.BadRange
unfolding read_from
from-only f text e = elim (cases_Bool (has 32 text)) [
  | inl there ↦
      needs-only (begins (60 ∷ []) (after 32 text)) fault.BadRange f _ (sym (if-true (has 32 text) _ _ there) ∙ e) (λ e1.
      needs-only (is_version (before 32 text)) fault.BadRange f _ e1 (λ e2.
      needs-only (is_version (behind (60 ∷ []) (after 32 text))) fault.BadRange f _ e2 (λ e3. cc)))
  | inr absent ↦ needs-only (is_version text) fault.BadRange f _ (sym (if-false (has 32 text) _ _ absent) ∙ e) (λ e1. cc)
]

pub range-only : (f : NameFault) (text : List ℕ) → read_range text ≡ Err f → f ≡ fault.BadRange
unfolding read_range
range-only f text e = elim (cases_Bool (begins (codes "{>=") text)) [
  | inl from ↦
      needs-only (ends 125 (behind (codes "{>=") text)) fault.BadRange f _ (sym (if-true (begins (codes "{>=") text) _ _ from) ∙ e)
      (λ e1. from-only f (front (behind (codes "{>=") text)) e1)
  | inr other ↦ elim (cases_Bool (begins (codes "{<") text)) [
    | inl under ↦
        needs-only (ends 125 (behind (codes "{<") text)) fault.BadRange f _ (sym (if-true (begins (codes "{<") text) _ _ under) ∙ (sym (if-false (begins (codes "{>=") text) _ _ other) ∙ e)) (λ e1.
        needs-only (is_version (front (behind (codes "{<") text))) fault.BadRange f _ e1 (λ e2. cc))
    | inr neither ↦
        needs-only (begins (codes "*") text && is_empty (behind (codes "*") text)) fault.BadRange f _
        (sym (if-false (begins (codes "{<") text) _ _ neither) ∙ (sym (if-false (begins (codes "{>=") text) _ _ other) ∙ e)) (λ e1. cc)
  ]
]

-- a range text, and what reading it answers
pub range_text-read : (text : List ℕ) → IsRangeText text → (r : Range) × (read_range text ≡ Ok r)
range_text-read text t = (t.0, sym (ap read_range t.2) ∙ read-range_text t.0 t.1)

with-range : (f : NameFault) (r : Read Range) → with {B = Option Range} Some r ≡ Err f → r ≡ Err f
with-range f (Ok x) e = cc
with-range f (Err g) e = cc

no_version : (f : NameFault) (text : List ℕ) → Must f (false ≡ true → IsRangeText text) fault.BadRange ⊥ → ok {A = Option Range} None ≡ bad f
no_version f text (inl m) = absurd (m.0 (λ e. absurd (false≢true e)))
no_version f text (inr m) = absurd m.1

range_there : (f : NameFault) (text : List ℕ) (r : Range) → read_range text ≡ Ok r → Must f (true ≡ true → IsRangeText text) fault.BadRange ⊥ → ok (Some r) ≡ bad f
range_there f text r e (inl m) = let i = range-read text r e in absurd (m.0 (λ _. (r, i.allowed, i.makes)))
range_there f text r e (inr m) = absurd m.1

range_refused : (f g : NameFault) (text : List ℕ) → read_range text ≡ Err g → Must f (true ≡ true → IsRangeText text) fault.BadRange ⊥ → bad {A = Option Range} g ≡ bad f
range_refused f g text e (inl m) = let o = range-only g text e in cc
range_refused f g text e (inr m) = absurd m.1

by_read : (f : NameFault) (text : List ℕ) (r : Read Range) → read_range text ≡ r → Iff (Must f (true ≡ true → IsRangeText text) fault.BadRange ⊥) (with {B = Option Range} Some r ≡ Err f)
by_read f text (Ok r) e = (range_there f text r e, λ k. cc)
by_read f text (Err g) e = (
  range_refused f g text e,
  λ k. inl ((λ h. let t = range_text-read text (h refl) in cc), range-only f text (e ∙ with-range f (Err g) k)),
)

-- the fault of an optional range
pub range-fault : (f : NameFault) (text : List ℕ) → Iff (Must f (IfVersioned text IsRangeText) fault.BadRange ⊥) (read_range_piece (version_piece text) ≡ Err f)
unfolding version_piece
range-fault f text = elim (cases_Bool (has 64 text)) [
  | inl there ↦ rw there (by_read f (after 64 text) (read_range (after 64 text)) refl)
  | inr absent ↦ rw absent (no_version f (after 64 text), λ e. cc)
]
