-- Reading one value for each of several kinds, as a loop does.
use Rattle.std.proofs.Common.{◌≡◌, ℕ, ◌+◌, ◌≤◌, ◌<◌, List, [], ◌∷◌, ◌++◌, map, drop, length, get_or, Result, Ok, Err, refl, sym, ap, ◌∙◌, append_assoc}
use Rattle.std.proofs.lemmas.List.{append-nil, at_drop_more, at_drop_all}
use Rattle.wac_component.specs.declared.fault.TextFault.{TextFault}
use Rattle.wac_component.specs.Reader.{Reader, done, after, each_at}
use Rattle.wac_reader_parts.specs.declared.fault.ReadFault.{ReadFault}
use Rattle.wac_reader_parts.specs.declared.fault.ReadFault.TheVariants as errors
use Rattle.wac_reader_parts.specs.private.Gives.{Fails}

-- What was read before, and what is still read.
abbrev pub joined : {A : Type 0} → List A → Result (List A × List ℕ) TextFault → Result (List A × List ℕ) TextFault
joined front read = after (λ xs. done (front ++ xs)) read

regroup : {A : Type 0} (front : List A) (x : A) (read : Result (List A × List ℕ) TextFault) → joined front (after (λ xs. done (x ∷ xs)) read) ≡ joined (front ++ x ∷ []) read
regroup {A} front x (Ok y) = ap (λ (ns : List A). Ok (ns, y.1)) (simp append_assoc)
regroup front x (Err f) = refl

module _ {A K : Type 0} (f : K → Reader A) (kinds : List K) where
  pub each_goes_on : (front : List A) (i : ℕ) (d kind : K) (bytes : List ℕ) (x : A) (rest : List ℕ) (total : Result (List A × List ℕ) TextFault) → i < length kinds → kind ≡ get_or kinds i d → f kind bytes ≡ Ok (x, rest)
      → joined front (each_at (map f (drop i kinds)) bytes) ≡ total → joined (front ++ x ∷ []) (each_at (map f (drop (i + 1) kinds)) rest) ≡ total
  unfolding each_at
  each_goes_on front i d kind bytes x rest total lt same h so_far =
      let one : joined front (each_at (map f (drop i kinds)) bytes) ≡ joined front (each_at (map f (kind ∷ drop (i + 1) kinds)) bytes) = rw same (at_drop_more (λ ks. joined front (each_at (map f ks) bytes)) kinds i d lt) in
      let two : joined front (each_at (map f (kind ∷ drop (i + 1) kinds)) bytes) ≡ joined (front ++ x ∷ []) (each_at (map f (drop (i + 1) kinds)) rest) = rw h (regroup front x (each_at (map f (drop (i + 1) kinds)) rest)) in
      sym two ∙ sym one ∙ so_far

  pub each_ends : (e : ReadFault) (front : List A) (i : ℕ) (d kind : K) (bytes : List ℕ) (total : Result (List A × List ℕ) TextFault) → i < length kinds → kind ≡ get_or kinds i d → Fails e (f kind bytes)
      → joined front (each_at (map f (drop i kinds)) bytes) ≡ total → Fails e total
  unfolding each_at
  each_ends errors.Memory front i d kind bytes total lt same h so_far = tt
  each_ends (errors.Text g left) front i d kind bytes total lt same h so_far =
      let one : joined front (each_at (map f (drop i kinds)) bytes) ≡ joined front (each_at (map f (kind ∷ drop (i + 1) kinds)) bytes) = rw same (at_drop_more (λ ks. joined front (each_at (map f ks) bytes)) kinds i d lt) in
      let two : joined front (each_at (map f (kind ∷ drop (i + 1) kinds)) bytes) ≡ Err g = rw h refl in
      sym so_far ∙ one ∙ two

  pub each_done : (front : List A) (i : ℕ) (bytes : List ℕ) (total : Result (List A × List ℕ) TextFault) → length kinds ≤ i → joined front (each_at (map f (drop i kinds)) bytes) ≡ total → total ≡ Ok (front, bytes)
  unfolding each_at
  each_done front i bytes total le so_far =
      sym so_far ∙ at_drop_all (λ ks. joined front (each_at (map f ks) bytes)) kinds i le ∙ ap (λ (ns : List A). Ok (ns, bytes)) (append-nil front)
