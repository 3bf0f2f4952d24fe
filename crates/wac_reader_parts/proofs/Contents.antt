-- The contents of a section, and a section in the bytes around it.
use Rattle.std.proofs.Common.{◌≡◌, ℕ, List, [], ◌∷◌, ◌++◌, Result, Ok, Err, refl, ap, ◌∙◌}
use Rattle.wac_component.specs.declared.fault.TextFault.{TextFault}
use Rattle.wac_component.specs.declared.fault.TextFault.TheVariants.{UnknownByte}
use Rattle.wac_component.specs.Parts.{Part, component_part, Parts}
use Rattle.wac_component.specs.Reader.{Reader, done, fails, after, byte, chosen, used_up, whole}
use Rattle.wac_component.specs.Numbers.{sized_at}
use Rattle.wac_component.specs.Reading.{section_at, sections, parts_at}
use Rattle.wac_reader_parts.specs.declared.fault.ReadFault.{ReadFault}
use Rattle.wac_reader_parts.specs.declared.fault.ReadFault.TheVariants as errors
use Rattle.wac_reader_parts.specs.private.Faults.{SameText}
use Rattle.wac_reader_parts.specs.private.Gives.{Fails, Gives}
use Rattle.wac_reader_parts.specs.private.Fronts.{behind, all_behind}

-- What was appended after one part is what the section gives.
pub appended : {X : Type 0} (view : X → List Part) (result : Result X ReadFault) (all : List Part) (read : Result (List Part) TextFault) → read ≡ Ok all → Gives view result (Ok all) → Gives view result read
appended view (Ok x) all read h g = h ∙ g
appended view (Err errors.Memory) all read h g = tt
appended view (Err (errors.Text f left)) all read h g = absurd cc

-- A fault in a section, in the bytes around it.
pub section_fails : (e found : ReadFault) (table : List (ℕ × Reader (List Part))) (front : List Part) (bytes rest inside after_it : List ℕ) (id : ℕ) → byte bytes ≡ Ok (id, rest) → sized_at rest ≡ Ok (inside, after_it)
    → SameText found e → Fails found (all_behind front (whole (chosen (fails UnknownByte) table id) inside)) → Fails e (behind front (section_at table bytes))
unfolding section_at
section_fails errors.Memory found table front bytes rest inside after_it id b s same h = tt
section_fails (errors.Text f left) errors.Memory table front bytes rest inside after_it id b s same h = absurd same
section_fails (errors.Text f left) (errors.Text g there) table front bytes rest inside after_it id b s same h = rw (b, s) (by_whole (whole (chosen (fails UnknownByte) table id) inside) (h ∙ ap Err same))
  where
    by_whole : (w : Result (List Part) TextFault) → all_behind front w ≡ Err f → behind front (elim w as (λ v. Result (List Part × List ℕ) TextFault) [ Ok x ↦ Ok (x, after_it) | Err d ↦ Err d ]) ≡ Err f
    by_whole (Ok x) e = absurd cc
    by_whole (Err d) e = cc

-- A nested component.
nested : (front : List Part) (r : Result Parts TextFault) (ps : Parts) → r ≡ Ok ps
    → all_behind front (used_up (after (λ p. done (p ∷ [])) (after (λ p. done (component_part p)) (elim r as (λ x. Result (Parts × List ℕ) TextFault) [ Ok p ↦ Ok (p, []) | Err f ↦ Err f ])))) ≡ Ok (front ++ component_part ps ∷ [])
nested front (Ok x) ps h = let same : x ≡ ps = cc in rw same refl
nested front (Err f) ps h = absurd cc

pub nested_section : (depth id : ℕ) (front : List Part) (bytes : List ℕ) (ps : Parts) → id ≡ 4 → parts_at depth bytes ≡ Ok ps → all_behind front (whole (chosen (fails UnknownByte) (sections depth (parts_at depth)) id) bytes) ≡ Ok (front ++ component_part ps ∷ [])
nested_section depth id front bytes ps is h = ap (λ (n : ℕ). all_behind front (whole (chosen (fails UnknownByte) (sections depth (parts_at depth)) n) bytes)) is ∙ nested front (parts_at depth bytes) ps h
