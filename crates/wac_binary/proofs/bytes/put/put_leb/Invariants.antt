use Rattle.std.proofs.Common.{◌≡◌, ◌++◌, List, ℕ}
use Rattle.wac_binary.specs.Leb.{leb}
use Rattle.wac_binary.proofs.bytes.put.put_leb.Given as goal

-- what is left to write completes the number
abbrev pub invariant-loop-rest : goal.invariant-loop-rest
invariant-loop-rest l = (l.out.items ++ leb l.limit l.rest ≡ l.fn.out.items ++ leb l.limit l.n) × ((done : List ℕ) × (l.out.items ≡ l.fn.out.items ++ done))

abbrev pub decreases-loop-rest : goal.decreases-loop-rest
decreases-loop-rest l = l.rest
