-- How many bytes a number of 64 bits has at most.
use Rattle.std.proofs.Common.{◌≡◌, ℕ, ◌+◌, ◌*◌, ◌/◌, ◌<◌, ◌≤◌, ◌^◌, refl, arith, true, false, ltb, length}
use Rattle.std.proofs.lemmas.Bool.{ltb-true, ltb-false}
use Rattle.wac_binary.specs.Leb.{leb}
use Rattle.wac_binary.specs.private.LebLaws.{leb_last, leb_more}

-- how long the numbers below a bound are
Short : (bound bytes : ℕ) → Type 0
Short bound bytes = (n : ℕ) → n < bound → length (leb 128 n) ≤ bytes

one_group : Short 128 1
unfolding Short
one_group n h = rw (leb_last 128 n h) (omega arith)

more_groups : (bound bytes : ℕ) → 1 ≤ bytes → Short bound bytes → Short (128 * bound) (bytes + 1)
unfolding Short
more_groups bound bytes p s n h =
    elim (ltb n 128) as (λ t. ltb n 128 ≡ t → length (leb 128 n) ≤ bytes + 1) [
      | true ↦ λ l. rw (leb_last 128 n (ltb-true n 128 l)) (omega arith)
      | false ↦ λ l. rw (leb_more 128 n (omega arith) (ltb-false n 128 l)) (omega (arith, s (n / 128) (omega arith)))
    ] refl

-- an unsigned number of 64 bits has at most ten bytes
pub unsigned_length : (n : ℕ) → n < 2 ^ 64 → length (leb 128 n) ≤ 10
unfolding Short
unsigned_length n h =
    let m = λ (b k : ℕ) (p : 1 ≤ k) (s : Short b k). more_groups b k p s in
    m _ 9 (omega arith) (m _ 8 (omega arith) (m _ 7 (omega arith) (m _ 6 (omega arith) (m _ 5 (omega arith) (m _ 4 (omega arith) (m _ 3 (omega arith) (m _ 2 (omega arith) (m _ 1 (omega arith) one_group)))))))) n (omega arith)
