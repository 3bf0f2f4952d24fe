-- Reading the sections of a component one after the other, as a loop does.
use Rattle.std.proofs.Common.{◌≡◌, ℕ, zero, suc, Bool, true, false, eqb, ◌≤◌, ◌<◌, List, [], ◌∷◌, ◌++◌, length, Result, Ok, Err, refl, sym, ap, ◌∙◌, append_assoc, arith}
use Rattle.std.specs.List.{flat_map}
use Rattle.std.proofs.lemmas.List.{append-nil}
use Rattle.std.proofs.lemmas.Bool.{eqb-true}
use Rattle.wac_component.specs.declared.fault.TextFault.{TextFault}
use Rattle.wac_component.specs.Parts.{Part, Parts, parts}
use Rattle.wac_component.specs.Reader.{done, after, used_up, elements}
use Rattle.wac_component.specs.Reading.{preamble_at, section_at, sections, parts_at}
use Rattle.wac_component.proofs.Ends.{takes_section}
use Rattle.wac_reader_parts.specs.declared.fault.ReadFault.{ReadFault}
use Rattle.wac_reader_parts.specs.declared.fault.ReadFault.TheVariants as errors
use Rattle.wac_reader_parts.specs.private.Gives.{Fails}
use Rattle.wac_reader_parts.specs.private.Fronts.{behind}

-- The parts of a component, if these were read before and the sections that are found are still to come.
abbrev pub with_parts : List Part → Result (List (List Part) × List ℕ) TextFault → Result Parts TextFault
with_parts front found = used_up (after (λ xs. done (parts (front ++ flat_map (λ ps. ps) xs))) found)

regroup : (front ps : List Part) (found : Result (List (List Part) × List ℕ) TextFault) → with_parts front (after (λ xs. done (ps ∷ xs)) found) ≡ with_parts (front ++ ps) found
regroup front ps (Ok x) = ap (λ (ns : List Part). used_up (Ok (parts ns, x.1))) (simp append_assoc)
regroup front ps (Err f) = refl

-- The sections from these bytes on, with a bound that they do not reach, after the parts that were read before.
pub record StillRead (depth : ℕ) (front : List Part) (rest : List ℕ) (total : Result Parts TextFault) : Type 0 where
  pub bound : ℕ
  pub fits : length rest ≤ bound
  pub is : with_parts front (elements (section_at (sections depth (parts_at depth))) bound rest) ≡ total

pub begins : (depth j : ℕ) (front : List Part) (bytes rest : List ℕ) → depth ≡ suc j → front ≡ [] → preamble_at bytes ≡ Ok (tt, rest) → StillRead j front rest (parts_at depth bytes)
unfolding parts_at
begins depth j front bytes rest same none h = record { bound = length rest; fits = omega arith; is = rw (same, none, h) refl }

pub no_preamble : (e : ReadFault) (depth j : ℕ) (bytes : List ℕ) → depth ≡ suc j → Fails e (preamble_at bytes) → Fails e (parts_at depth bytes)
unfolding parts_at
no_preamble errors.Memory depth j bytes same h = tt
no_preamble (errors.Text f left) depth j bytes same h = rw (same, h) refl

-- What a section appends, and what is after it.
taken : (front new : List Part) (rest : List ℕ) (r : Result (List Part × List ℕ) TextFault) → behind front r ≡ Ok (new, rest) → (ps : List Part) × (r ≡ Ok (ps, rest)) × (new ≡ front ++ ps)
taken front new rest (Ok x) h =
    let p : ◌≡◌ {A = List Part × List ℕ} (front ++ x.0, x.1) (new, rest) = cc in
    (x.0, ap (λ (z : List Part × List ℕ). Ok (x.0, z.1)) p, ap (λ (z : List Part × List ℕ). z.0) (sym p))
taken front new rest (Err f) h = absurd cc

pub shorter : (depth : ℕ) (front new : List Part) (bytes rest : List ℕ) → behind front (section_at (sections depth (parts_at depth)) bytes) ≡ Ok (new, rest) → length rest < length bytes
shorter depth front new bytes rest h =
    let p = taken front new rest (section_at (sections depth (parts_at depth)) bytes) h in
    takes_section (sections depth (parts_at depth)) bytes (p.0, rest) p.1

next : (depth n : ℕ) (front new ps : List Part) (bytes rest : List ℕ) (total : Result Parts TextFault) → 0 < length bytes → length rest < length bytes → section_at (sections depth (parts_at depth)) bytes ≡ Ok (ps, rest) → new ≡ front ++ ps
    → length bytes ≤ n → with_parts front (elements (section_at (sections depth (parts_at depth))) n bytes) ≡ total → StillRead depth new rest total
unfolding elements
next depth n front new ps [] rest total some less h same fits is = absurd (omega arith)
next depth zero front new ps (b ∷ bytes) rest total some less h same fits is = absurd (omega arith)
next depth (suc n) front new ps (b ∷ bytes) rest total some less h same fits is =
    let found = elements (section_at (sections depth (parts_at depth))) n rest in
    let one : with_parts front (elements (section_at (sections depth (parts_at depth))) (suc n) (b ∷ bytes)) ≡ with_parts (front ++ ps) found = rw h (regroup front ps found) in
    record { bound = n; fits = omega arith; is = rw same (sym one ∙ is) }

pub goes_on : (depth : ℕ) (front new : List Part) (bytes rest : List ℕ) (total : Result Parts TextFault) → 0 < length bytes → behind front (section_at (sections depth (parts_at depth)) bytes) ≡ Ok (new, rest) → StillRead depth front bytes total → StillRead depth new rest total
goes_on depth front new bytes rest total some h so_far =
    let p = taken front new rest (section_at (sections depth (parts_at depth)) bytes) h in
    let less = shorter depth front new bytes rest h in
    next depth so_far.bound front new p.0 bytes rest total some less p.1 p.2 so_far.fits so_far.is

faulty : (front : List Part) (r : Result (List Part × List ℕ) TextFault) (f : TextFault) → behind front r ≡ Err f → r ≡ Err f
faulty front (Ok x) f h = absurd cc
faulty front (Err g) f h = cc

stops : (depth n : ℕ) (f : TextFault) (front : List Part) (bytes : List ℕ) (total : Result Parts TextFault) → 0 < length bytes → section_at (sections depth (parts_at depth)) bytes ≡ Err f → length bytes ≤ n
    → with_parts front (elements (section_at (sections depth (parts_at depth))) n bytes) ≡ total → total ≡ Err f
unfolding elements
stops depth n f front [] total some h fits is = absurd (omega arith)
stops depth zero f front (b ∷ bytes) total some h fits is = absurd (omega arith)
stops depth (suc n) f front (b ∷ bytes) total some h fits is =
    let one : with_parts front (elements (section_at (sections depth (parts_at depth))) (suc n) (b ∷ bytes)) ≡ Err f = rw h refl in
    sym is ∙ one

pub ends : (e : ReadFault) (depth : ℕ) (front : List Part) (bytes : List ℕ) (total : Result Parts TextFault) → 0 < length bytes → Fails e (behind front (section_at (sections depth (parts_at depth)) bytes)) → StillRead depth front bytes total → Fails e total
ends errors.Memory depth front bytes total some h so_far = tt
ends (errors.Text f left) depth front bytes total some h so_far =
    stops depth so_far.bound f front bytes total some (faulty front (section_at (sections depth (parts_at depth)) bytes) f h) so_far.fits so_far.is

pub is_done : (depth : ℕ) (front : List Part) (bytes : List ℕ) (total : Result Parts TextFault) → length bytes ≡ 0 → StillRead depth front bytes total → total ≡ Ok (parts front)
unfolding elements
is_done depth front [] total none so_far =
    let one : with_parts front (elements (section_at (sections depth (parts_at depth))) so_far.bound []) ≡ Ok (parts front) = ap (λ (ns : List Part). Ok (parts ns)) (append-nil front) in
    sym so_far.is ∙ one
is_done depth front (b ∷ bytes) total none so_far = absurd (omega arith)

-- A test for no bytes.
pub not_empty : (n : ℕ) (b : Bool) → b ≡ eqb n 0 → b ≡ false → 0 < n
not_empty zero b is fails = absurd cc
not_empty (suc n) b is fails = omega arith

pub empty : (n : ℕ) (b : Bool) → b ≡ eqb n 0 → b ≡ true → n ≡ 0
empty n b is holds = eqb-true n 0 (sym is ∙ holds)
