use Rattle.std.proofs.Common.{◌≡◌, ◌+◌, ◌*◌, ◌≤◌, ◌^◌, length, take}
use Rattle.std.specs.List.{flat_map, AllByRecursion}
use Rattle.wac_binary.specs.Leb.{unsigned}
use Rattle.wac_binary.specs.Bytes.{text}
use Rattle.wac_binary.specs.Format.{IsText}
use Rattle.wac_binary.proofs.declarations.size.texts_size.Given as goal

abbrev pub invariant-loop-t : goal.invariant-loop-t
invariant-loop-t l = record {
  is : l.size ≡ length (unsigned (length l.texts)) + length (flat_map (λ t. text t.now) (take l.t-index l.texts));
  small : l.size ≤ 2 ^ 64 + l.t-index * (2 ^ 64);
  in_format : AllByRecursion (λ t. IsText t.now) (take l.t-index l.texts);
}
