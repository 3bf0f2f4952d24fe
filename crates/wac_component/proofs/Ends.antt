-- Sections are read up to the end of a component: the bound on their number, the length of the bytes, is never met.
use Rattle.std.proofs.Common.{◌≡◌, ℕ, zero, suc, ◌+◌, ◌*◌, ◌%◌, ◌<◌, ◌≤◌, true, false, cond, ltb, List, [], ◌∷◌, length, Result, Ok, Err, refl, sym, subst, ◌∙◌, arith}
use Rattle.wac_component.specs.declared.fault.TextFault.{TextFault}
use Rattle.wac_component.specs.declared.fault.TextFault.TheVariants.{LongNumber, UnknownByte}
use Rattle.wac_component.specs.Parts.{Part}
use Rattle.wac_component.specs.Reader.{Reader, done, fails, after, made, byte, chosen, whole, within, all_at, elements, to_end}
use Rattle.wac_component.specs.Numbers.{leb_at, number_at, bytes_at, sized_at}
use Rattle.wac_component.specs.Reading.{section_at}

-- Both readers of a sequence found something.
pub both : {A B : Type 0} (r : Result (A × List ℕ) TextFault) (f : A → Reader B) (y : B × List ℕ) → after f r ≡ Ok y → (x : A × List ℕ) × (r ≡ Ok x) × (f x.0 x.1 ≡ Ok y)
both (Ok x) f y e = (x, refl, e)
both (Err d) f y e = absurd cc

-- A reader that leaves fewer bytes, and one that leaves no more.
abbrev pub Takes : {A : Type 0} → Reader A → Type 0
Takes {A = A} r = (bytes : List ℕ) (x : A × List ℕ) → r bytes ≡ Ok x → length x.1 < length bytes

abbrev pub Shrinks : {A : Type 0} → Reader A → Type 0
Shrinks {A = A} r = (bytes : List ℕ) (x : A × List ℕ) → r bytes ≡ Ok x → length x.1 ≤ length bytes

takes_byte : Takes byte
takes_byte [] x e = absurd cc
takes_byte (b ∷ bytes) x e = let s : bytes ≡ x.1 = cc in subst (λ (rest : List ℕ). length rest < length (b ∷ bytes)) s (omega arith)

-- Elements that take bytes go on to the end.
pub elements_end : {A : Type 0} (r : Reader A) → Takes r → (n : ℕ) (bytes : List ℕ) → length bytes ≤ n → (x : List A × List ℕ) → elements r n bytes ≡ Ok x → x.1 ≡ []
unfolding elements
elements_end r takes n [] h x e = cc
elements_end r takes zero (b ∷ bytes) h x e = absurd (omega arith)
elements_end r takes (suc n) (b ∷ bytes) h x e =
    let p = both (r (b ∷ bytes)) _ x e in
    let q = both (elements r n p.0.1) _ x p.2 in
    let less = takes (b ∷ bytes) p.0 p.1 in
    let rest : q.0.1 ≡ x.1 = cc in
    sym rest ∙ elements_end r takes n p.0.1 (omega arith) q.0 q.1

shrinks_leb : (limit last k : ℕ) → Shrinks (leb_at limit last k)
unfolding leb_at
shrinks_leb limit last zero bytes x e =
    let p = both (byte bytes) _ x e in
    let less = takes_byte bytes p.0 p.1 in
    elim (ltb p.0.0 last) as (λ c. cond c (done p.0.0) (fails LongNumber) p.0.1 ≡ Ok x → length x.1 ≤ length bytes) [
      | true ↦ λ f. let s : p.0.1 ≡ x.1 = cc in subst (λ (rest : List ℕ). length rest ≤ length bytes) s (omega arith)
      | false ↦ λ f. absurd cc
    ] p.2
shrinks_leb limit last (suc k) bytes x e =
    let p = both (byte bytes) _ x e in
    let less = takes_byte bytes p.0 p.1 in
    elim (ltb p.0.0 128) as (λ c. cond c (cond (ltb p.0.0 limit) (done p.0.0) (fails UnknownByte)) (made (λ n. p.0.0 % 128 + 128 * n) (leb_at limit last k)) p.0.1 ≡ Ok x → length x.1 ≤ length bytes) [
      | true ↦ elim (ltb p.0.0 limit) as (λ c. cond c (done p.0.0) (fails UnknownByte) p.0.1 ≡ Ok x → length x.1 ≤ length bytes) [
        | true ↦ λ f. let s : p.0.1 ≡ x.1 = cc in subst (λ (rest : List ℕ). length rest ≤ length bytes) s (omega arith)
        | false ↦ λ f. absurd cc
      ]
      | false ↦ λ f.
          let q = both (leb_at limit last k p.0.1) _ x f in
          let low = shrinks_leb limit last k p.0.1 q.0 q.1 in
          let s : q.0.1 ≡ x.1 = cc in
          subst (λ (rest : List ℕ). length rest ≤ length bytes) s (omega arith)
    ] p.2

shrinks_bytes : (n : ℕ) → Shrinks (all_at byte n)
unfolding all_at
shrinks_bytes zero bytes x e = let s : bytes ≡ x.1 = cc in subst (λ (rest : List ℕ). length rest ≤ length bytes) s (omega arith)
shrinks_bytes (suc n) bytes x e =
    let p = both (byte bytes) _ x e in
    let q = both (all_at byte n p.0.1) _ x p.2 in
    let less = takes_byte bytes p.0 p.1 in
    let low = shrinks_bytes n p.0.1 q.0 q.1 in
    let s : q.0.1 ≡ x.1 = cc in
    subst (λ (rest : List ℕ). length rest ≤ length bytes) s (omega arith)

shrinks_sized : Shrinks sized_at
unfolding sized_at number_at bytes_at
shrinks_sized bytes x e =
    let p = both (number_at bytes) _ x e in
    let first = shrinks_leb 128 16 4 bytes p.0 p.1 in
    let second = shrinks_bytes p.0.0 p.0.1 x p.2 in
    omega arith

within_rest : {A : Type 0} (r : Reader A) (contents bytes : List ℕ) (x : A × List ℕ) → within r contents bytes ≡ Ok x → bytes ≡ x.1
within_rest {A = A} r contents bytes x e = by_result (whole r contents) e
  where
    by_result : (w : Result A TextFault) → elim w as (λ v. Result (A × List ℕ) TextFault) [ Ok y ↦ Ok (y, bytes) | Err d ↦ Err d ] ≡ Ok x → bytes ≡ x.1
    by_result (Ok y) f = cc
    by_result (Err d) f = absurd cc

pub takes_section : (table : List (ℕ × Reader (List Part))) → Takes (section_at table)
unfolding section_at
takes_section table bytes x e =
    let p = both (byte bytes) _ x e in
    let q = both (sized_at p.0.1) _ x p.2 in
    let less = takes_byte bytes p.0 p.1 in
    let low = shrinks_sized p.0.1 q.0 q.1 in
    let s = within_rest (chosen (fails UnknownByte) table p.0.0) q.0.0 q.0.1 x q.2 in
    subst (λ (rest : List ℕ). length rest < length bytes) s (omega arith)

-- The sections of a component reach its end.
pub sections_end : (table : List (ℕ × Reader (List Part))) (bytes : List ℕ) (x : List (List Part) × List ℕ) → to_end (section_at table) bytes ≡ Ok x → x.1 ≡ []
sections_end table bytes x e = elements_end (section_at table) (takes_section table) (length bytes) bytes (omega arith) x e
