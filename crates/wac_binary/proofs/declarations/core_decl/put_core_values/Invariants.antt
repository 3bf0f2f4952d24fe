use Rattle.std.proofs.Common.{◌≡◌, ◌++◌, List, ℕ, length, take}
use Rattle.std.specs.List.{flat_map}
use Rattle.wac_binary.specs.Leb.{unsigned}
use Rattle.wac_binary.specs.Bytes.{core_val}
use Rattle.wac_binary.proofs.declarations.core_decl.put_core_values.Given as goal

abbrev pub invariant-loop-t : goal.invariant-loop-t
invariant-loop-t l = (l.out.items ≡ (l.fn.out.items ++ unsigned (length l.types)) ++ flat_map core_val (take l.t-index l.types)) × ((more : List ℕ) × (l.out.items ≡ l.fn.out.items ++ more))
