use Rattle.std.proofs.Common.{◌≡◌, ◌+◌, ◌*◌, ◌≤◌, ◌^◌, length, take}
use Rattle.std.specs.List.{flat_map, AllByRecursion}
use Rattle.wac_binary.specs.Leb.{unsigned}
use Rattle.wac_binary.specs.Bytes.{case}
use Rattle.wac_binary.specs.Format.{CaseIsInFormat}
use Rattle.wac_binary.proofs.declarations.size.cases_size.Given as goal

abbrev pub invariant-loop-c : goal.invariant-loop-c
invariant-loop-c l = record {
  is : l.size ≡ length (unsigned (length l.cases)) + length (flat_map (λ c. case (c.0.now, c.1)) (take l.c-index l.cases));
  small : l.size ≤ 2 ^ 64 + l.c-index * (2 ^ 64 + 2 ^ 34);
  in_format : AllByRecursion (λ c. CaseIsInFormat (c.0.now, c.1)) (take l.c-index l.cases);
}
