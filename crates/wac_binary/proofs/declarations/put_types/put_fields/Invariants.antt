use Rattle.std.proofs.Common.{◌≡◌, ◌++◌, List, ℕ, length, take}
use Rattle.std.specs.List.{flat_map}
use Rattle.wac_binary.specs.Leb.{unsigned}
use Rattle.wac_binary.specs.Bytes.{field}
use Rattle.wac_binary.proofs.declarations.put_types.put_fields.Given as goal

abbrev pub invariant-loop-field : goal.invariant-loop-field
invariant-loop-field l = (l.out.items ≡ (l.fn.out.items ++ unsigned (length l.fields)) ++ flat_map (λ f. field (f.0.now, f.1)) (take l.field-index l.fields)) × ((more : List ℕ) × (l.out.items ≡ l.fn.out.items ++ more))
