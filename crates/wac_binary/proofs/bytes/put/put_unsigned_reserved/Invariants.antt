use Rattle.std.proofs.Common.{◌≡◌, ◌+◌, ◌≤◌, ◌++◌, length}
use Rattle.std.specs.Prelude.{vec_len, vec_capacity}
use Rattle.wac_binary.specs.Leb.{unsigned}
use Rattle.wac_binary.proofs.bytes.put.put_unsigned_reserved.Given as goal

-- what is left to write completes the number, and there is room for it
abbrev pub invariant-loop-rest : goal.invariant-loop-rest
invariant-loop-rest l = record {
  written : l.out.items ++ unsigned l.rest ≡ l.fn.out.items ++ unsigned l.n;
  room : vec_len l.out + length (unsigned l.rest) ≤ vec_len l.fn.out + 10;
  capacity : vec_capacity l.out ≡ vec_capacity l.fn.out;
}

abbrev pub decreases-loop-rest : goal.decreases-loop-rest
decreases-loop-rest l = l.rest
