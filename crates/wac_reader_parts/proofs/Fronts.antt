-- Vectors that a loop reads after their count.
use Rattle.std.proofs.Common.{◌≡◌, ℕ, ◌-◌, List, [], Result, Ok, Err, refl, arith}
use Rattle.wac_component.specs.declared.fault.TextFault.{TextFault}
use Rattle.wac_component.specs.Reader.{Reader, all_at}
use Rattle.wac_component.specs.Numbers.{number_at, vector_at}
use Rattle.wac_reader_parts.specs.private.Fronts.{behind}

nothing_before : {A : Type 0} (r : Result (List A × List ℕ) TextFault) → behind [] r ≡ r
nothing_before (Ok x) = refl
nothing_before (Err f) = refl

-- The loop begins, with nothing before the vector, or with a front.
pub starts : {A : Type 0} (f : Reader A) (front : List A) (count : ℕ) (bytes rest : List ℕ) → front ≡ [] → number_at bytes ≡ Ok (count, rest) → behind front (all_at f (count - 0) rest) ≡ vector_at f bytes
unfolding vector_at
starts f front count bytes rest none h = let k : count - 0 ≡ count = omega arith in rw (none, h, k) (nothing_before (all_at f count rest))

pub starts_behind : {A : Type 0} (f : Reader A) (front : List A) (count : ℕ) (bytes rest : List ℕ) → number_at bytes ≡ Ok (count, rest) → behind front (all_at f (count - 0) rest) ≡ behind front (vector_at f bytes)
unfolding vector_at
starts_behind f front count bytes rest h = let k : count - 0 ≡ count = omega arith in rw (h, k) refl
