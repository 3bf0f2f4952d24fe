use Rattle.std.proofs.Common.{◌≡◌, ◌++◌, List, ℕ, length, take}
use Rattle.std.specs.List.{flat_map}
use Rattle.wac_binary.specs.Leb.{unsigned}
use Rattle.wac_binary.specs.Bytes.{argument}
use Rattle.wac_binary.proofs.bytes.put.put_arguments.Given as goal

abbrev pub invariant-loop-a : goal.invariant-loop-a
invariant-loop-a l = (l.out.items ≡ (l.fn.out.items ++ unsigned (length l.arguments)) ++ flat_map (λ a. argument (a.0.now, a.1, a.2)) (take l.a-index l.arguments)) × ((more : List ℕ) × (l.out.items ≡ l.fn.out.items ++ more))
