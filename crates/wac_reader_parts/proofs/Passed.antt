-- A fault of a first reader is the fault of what goes on with it.
use Rattle.std.proofs.Common.{◌≡◌, ℕ, suc, zero, ◌≤◌, ◌<◌, ◌-◌, List, [], ◌∷◌, drop, take, length, slice_index_or, Result, Ok, Err, refl, ap, subst, arith}
use Rattle.std.proofs.lemmas.Bool.{le-ltb, lt-ltb}
use Rattle.std.proofs.lemmas.List.{take_all}
use Rattle.wac_component.specs.declared.fault.TextFault.{TextFault}
use Rattle.wac_component.specs.declared.fault.TextFault.TheVariants.{Short}
use Rattle.wac_reader_parts.specs.declared.fault.ReadFault.{ReadFault}
use Rattle.wac_reader_parts.specs.declared.fault.ReadFault.TheVariants as errors
use Rattle.wac_reader_parts.specs.private.Gives.{Fails}
use Rattle.wac_component.specs.Reader.{Reader, after, byte, all_at}
use Rattle.wac_component.specs.Numbers.{leb_at, number_at, signed_at}

pub fails_after : {A B : Type 0} (e : ReadFault) (r : Result (A × List ℕ) TextFault) (f : A → Reader B) → Fails e r → Fails e (after f r)
fails_after errors.Memory r f h = tt
fails_after (errors.Text g left) r f h = ap (after f) h

pub leb_fails : (e : ReadFault) (limit last j k : ℕ) (bytes : List ℕ) → k ≡ suc j → 1 ≤ length bytes → 128 ≤ slice_index_or bytes 0 0 → Fails e (leb_at limit last j (take (length bytes - 1) (drop 1 bytes))) → Fails e (leb_at limit last k bytes)
unfolding leb_at
leb_fails e limit last j k [] same some big h = absurd (omega arith)
leb_fails e limit last j k (b ∷ bytes) same some big h =
    let all : take (length (b ∷ bytes) - 1) bytes ≡ bytes = take_all (length (b ∷ bytes) - 1) bytes (omega arith) in
    rw (same, le-ltb b 128 big) (fails_after e (leb_at limit last j bytes) _ (subst (λ (rest : List ℕ). Fails e (leb_at limit last j rest)) all h))

-- A number of one byte, and a number without a byte.
pub number_short : (b : ℕ) (bytes rest : List ℕ) → byte bytes ≡ Ok (b, rest) → b < 128 → number_at bytes ≡ Ok (b, rest)
unfolding number_at leb_at
number_short b bytes rest h lt = rw (h, lt-ltb b 128 lt) refl

pub number_fails : (e : ReadFault) (bytes : List ℕ) → Fails e (byte bytes) → Fails e (number_at bytes)
unfolding number_at leb_at
number_fails e bytes h = fails_after e (byte bytes) _ h

pub signed_short : (b : ℕ) (bytes rest : List ℕ) → byte bytes ≡ Ok (b, rest) → b < 64 → signed_at bytes ≡ Ok (b, rest)
unfolding signed_at leb_at
signed_short b bytes rest h lt = let below : b < 128 = omega arith in rw (h, lt-ltb b 128 below, lt-ltb b 64 lt) refl

pub signed_fails : (e : ReadFault) (bytes : List ℕ) → Fails e (byte bytes) → Fails e (signed_at bytes)
unfolding signed_at leb_at
signed_fails e bytes h = fails_after e (byte bytes) _ h

-- As many bytes as are there are read at once.
pub bytes_there : (n : ℕ) (bytes : List ℕ) → n ≤ length bytes → all_at byte n bytes ≡ Ok (take n bytes, drop n bytes)
unfolding all_at
bytes_there zero bytes le = refl
bytes_there (suc n) [] le = absurd (omega arith)
bytes_there (suc n) (b ∷ bytes) le = rw (bytes_there n bytes (omega arith)) refl

pub bytes_short : (n : ℕ) (bytes : List ℕ) → length bytes < n → all_at byte n bytes ≡ Err Short
unfolding all_at
bytes_short zero bytes lt = absurd (omega arith)
bytes_short (suc n) [] lt = refl
bytes_short (suc n) (b ∷ bytes) lt = rw (bytes_short n bytes (omega arith)) refl
