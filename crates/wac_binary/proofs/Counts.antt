-- Numbers of indexes, after one more.
use Rattle.std.proofs.Common.{◌≡◌, ℕ, ◌+◌, ◌<◌, ◌≤◌, List, length, refl, arith, eq-eqb}
use Rattle.std.specs.Prelude.{Some, slice_index, slice_set}
use Rattle.std.proofs.lemmas.Grind.{common_steps}
use Rattle.std.proofs.lemmas.Bool.Decides.{nat_tests}
use Rattle.wac_binary.specs.Indexes.{is_in}

-- one space's number of indexes grows by one
pub grown : (k j n m : ℕ) (counts : List ℕ) → slice_index counts j ≡ n → k < length counts → m ≡ n + is_in j (Some k) → slice_index (slice_set counts k (slice_index counts k + 1)) j ≡ m
grown k j n m counts e l f = grind (arith, nat_tests, common_steps)

pub bounded : (k j n b : ℕ) → n ≤ b → (k ≡ j → n < b) → n + is_in j (Some k) ≤ b
bounded k j n b p q = grind (arith, nat_tests)

pub here : (k : ℕ) → is_in k (Some k) ≡ 1
here k = rw (eq-eqb k k refl) refl
