-- Reading elements one after the other, as a loop does.
use Rattle.std.proofs.Common.{◌≡◌, ℕ, suc, ◌-◌, ◌+◌, ◌≤◌, ◌<◌, List, [], ◌∷◌, ◌++◌, Result, Ok, Err, refl, sym, ap, ◌∙◌, append_assoc, arith}
use Rattle.std.proofs.lemmas.List.{append-nil}
use Rattle.wac_component.specs.declared.fault.TextFault.{TextFault}
use Rattle.wac_reader_parts.specs.declared.fault.ReadFault.{ReadFault}
use Rattle.wac_reader_parts.specs.declared.fault.ReadFault.TheVariants as errors
use Rattle.wac_component.specs.Reader.{Reader, done, after, all_at}
use Rattle.wac_reader_parts.specs.private.Gives.{Fails}

module _ {A : Type 0} (f : Reader A) where
  -- what was read before, and what is still read
  abbrev pub with_front : List A → Result (List A × List ℕ) TextFault → Result (List A × List ℕ) TextFault
  with_front front read = after (λ xs. done (front ++ xs)) read

  regroup : (front : List A) (n : A) (read : Result (List A × List ℕ) TextFault) → with_front front (after (λ xs. done (n ∷ xs)) read) ≡ with_front (front ++ n ∷ []) read
  regroup front n (Ok x) = ap (λ (ns : List A). Ok (ns, x.1)) (simp append_assoc)
  regroup front n (Err f) = refl

  pub goes_on : (front : List A) (count i : ℕ) (bytes : List ℕ) (n : A) (rest : List ℕ) (total : Result (List A × List ℕ) TextFault) → i < count → f bytes ≡ Ok (n, rest)
      → with_front front (all_at f (count - i) bytes) ≡ total → with_front (front ++ n ∷ []) (all_at f (count - (i + 1)) rest) ≡ total
  unfolding all_at
  goes_on front count i bytes n rest total lt h so_far =
      let k : count - i ≡ suc (count - (i + 1)) = omega arith in
      let one : with_front front (all_at f (count - i) bytes) ≡ with_front (front ++ n ∷ []) (all_at f (count - (i + 1)) rest) = rw (k, h) (regroup front n (all_at f (count - (i + 1)) rest)) in
      sym one ∙ so_far

  pub ends : (e : ReadFault) (front : List A) (count i : ℕ) (bytes : List ℕ) (total : Result (List A × List ℕ) TextFault) → i < count → Fails e (f bytes)
      → with_front front (all_at f (count - i) bytes) ≡ total → Fails e total
  unfolding all_at
  ends errors.Memory front count i bytes total lt h so_far = tt
  ends (errors.Text g left) front count i bytes total lt h so_far =
      let k : count - i ≡ suc (count - (i + 1)) = omega arith in
      let one : with_front front (all_at f (count - i) bytes) ≡ Err g = rw (k, h) refl in
      sym so_far ∙ one

  pub is_done : (front : List A) (count i : ℕ) (bytes : List ℕ) (total : Result (List A × List ℕ) TextFault) → count ≤ i → with_front front (all_at f (count - i) bytes) ≡ total → total ≡ Ok (front, bytes)
  unfolding all_at
  is_done front count i bytes total le so_far =
      let k : count - i ≡ 0 = omega arith in
      let one : with_front front (all_at f (count - i) bytes) ≡ Ok (front, bytes) = rw k (ap (λ (ns : List A). Ok (ns, bytes)) (append-nil front)) in
      sym so_far ∙ one
