use Rattle.std.proofs.Common.{◌≡◌, ◌++◌, List, ℕ, length, take}
use Rattle.std.specs.List.{flat_map}
use Rattle.wac_binary.specs.Leb.{unsigned}
use Rattle.wac_binary.specs.Bytes.{case}
use Rattle.wac_binary.proofs.declarations.put_types.put_cases.Given as goal

abbrev pub invariant-loop-c : goal.invariant-loop-c
invariant-loop-c l = (l.out.items ≡ (l.fn.out.items ++ unsigned (length l.cases)) ++ flat_map (λ c. case (c.0.now, c.1)) (take l.c-index l.cases)) × ((more : List ℕ) × (l.out.items ≡ l.fn.out.items ++ more))
