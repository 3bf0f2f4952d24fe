-- What is written is read: the writer's numbers. What a reader of bytes takes. Sections are read up to the end.
use Rattle.std.proofs.Common.{◌≡◌, ℕ, zero, suc, ◌+◌, ◌*◌, ◌/◌, ◌%◌, ◌^◌, ◌<◌, ◌≤◌, true, false, ltb, List, [], ◌∷◌, ◌++◌, length, take, drop, Ok, Err, refl, ap, ◌∙◌, arith}
use Rattle.std.proofs.lemmas.Bool.{lt-ltb, le-ltb, ltb-true, ltb-false}
use Rattle.wac_component.specs.declared.fault.TextFault.TheVariants.{Short}
use Rattle.wac_binary.specs.Leb.{leb, unsigned, signed}
use Rattle.wac_component.specs.Reader.{byte, all_at}
use Rattle.wac_component.specs.Numbers.{leb_at, number_at, number64_at, signed_at, bytes_at}
use Rattle.wac_binary.specs.private.LebLaws.{leb_last, leb_more}

-- What a number with at most k bytes before its last is below.
abbrev bound : ℕ → ℕ → ℕ
bound last zero = last
bound last (suc k) = 128 * bound last k

leb_again : (limit last k n : ℕ) (rest : List ℕ) → 0 < limit → limit ≤ 128 → last ≤ limit → n < bound last k → leb_at limit last k (leb limit n ++ rest) ≡ Ok (n, rest)
unfolding leb_at
leb_again limit last zero n rest some most low h = rw (leb_last limit n (omega (arith, h)), lt-ltb n last h) refl
leb_again limit last (suc k) n rest some most low h =
    elim (ltb n limit) as (λ c. ltb n limit ≡ c → leb_at limit last (suc k) (leb limit n ++ rest) ≡ Ok (n, rest)) [
      | true ↦ λ t. let lt = ltb-true n limit t in rw (leb_last limit n lt, lt-ltb n 128 (omega (arith, lt, most)), lt-ltb n limit lt) refl
      | false ↦ λ t. later (ltb-false n limit t) (leb_again limit last k (n / 128) rest some most low (omega (arith, h)))
    ] refl
  where
    later : limit ≤ n → leb_at limit last k (leb limit (n / 128) ++ rest) ≡ Ok (n / 128, rest) → leb_at limit last (suc k) (leb limit n ++ rest) ≡ Ok (n, rest)
    later le before =
        let front : leb limit n ++ rest ≡ (n % 128 + 128) ∷ (leb limit (n / 128) ++ rest) = ap (λ (l : List ℕ). l ++ rest) (leb_more limit n some le) in
        let value : (n % 128 + 128) % 128 + 128 * (n / 128) ≡ n = omega arith in
        ap (leb_at limit last (suc k)) front ∙ rw (le-ltb (n % 128 + 128) 128 (omega arith), before) (ap (λ (m : ℕ). Ok (m, rest)) value)

-- The numbers of the writer, `unsigned` and `signed`, are read as they are.
pub number_again : (n : ℕ) (rest : List ℕ) → n < 2 ^ 32 → number_at (unsigned n ++ rest) ≡ Ok (n, rest)
unfolding number_at
number_again n rest h = leb_again 128 16 4 n rest (omega arith) (omega arith) (omega arith) h

pub number64_again : (n : ℕ) (rest : List ℕ) → n < 2 ^ 64 → number64_at (unsigned n ++ rest) ≡ Ok (n, rest)
unfolding number64_at
number64_again n rest h = leb_again 128 2 9 n rest (omega arith) (omega arith) (omega arith) h

pub signed_again : (n : ℕ) (rest : List ℕ) → n < 2 ^ 32 → signed_at (signed n ++ rest) ≡ Ok (n, rest)
unfolding signed_at
signed_again n rest h = leb_again 64 16 4 n rest (omega arith) (omega arith) (omega arith) h

-- `bytes_at n` takes n bytes, if there are so many.
all_bytes_at : (n : ℕ) (bytes : List ℕ) → n ≤ length bytes → all_at byte n bytes ≡ Ok (take n bytes, drop n bytes)
unfolding all_at
all_bytes_at zero bytes h = refl
all_bytes_at (suc n) [] h = absurd (omega arith)
all_bytes_at (suc n) (b ∷ bytes) h = rw (all_bytes_at n bytes (omega arith)) refl

pub bytes_there : (n : ℕ) (bytes : List ℕ) → n ≤ length bytes → bytes_at n bytes ≡ Ok (take n bytes, drop n bytes)
unfolding bytes_at
bytes_there n bytes h = all_bytes_at n bytes h

all_bytes_short : (n : ℕ) (bytes : List ℕ) → length bytes < n → all_at byte n bytes ≡ Err Short
unfolding all_at
all_bytes_short zero bytes h = absurd (omega arith)
all_bytes_short (suc n) [] h = refl
all_bytes_short (suc n) (b ∷ bytes) h = rw (all_bytes_short n bytes (omega arith)) refl

pub bytes_short : (n : ℕ) (bytes : List ℕ) → length bytes < n → bytes_at n bytes ≡ Err Short
unfolding bytes_at
bytes_short n bytes h = all_bytes_short n bytes h
