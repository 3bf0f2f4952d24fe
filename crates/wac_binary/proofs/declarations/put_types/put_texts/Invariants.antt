use Rattle.std.proofs.Common.{◌≡◌, ◌++◌, List, ℕ, length, take}
use Rattle.std.specs.List.{flat_map}
use Rattle.wac_binary.specs.Leb.{unsigned}
use Rattle.wac_binary.specs.Bytes.{text}
use Rattle.wac_binary.proofs.declarations.put_types.put_texts.Given as goal

abbrev pub invariant-loop-t : goal.invariant-loop-t
invariant-loop-t l = (l.out.items ≡ (l.fn.out.items ++ unsigned (length l.texts)) ++ flat_map (λ t. text t.now) (take l.t-index l.texts)) × ((more : List ℕ) × (l.out.items ≡ l.fn.out.items ++ more))
