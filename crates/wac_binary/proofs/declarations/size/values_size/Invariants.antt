use Rattle.std.proofs.Common.{◌≡◌, ◌+◌, ◌*◌, ◌≤◌, ◌^◌, length, take}
use Rattle.std.specs.List.{flat_map, AllByRecursion}
use Rattle.wac_binary.specs.Leb.{unsigned}
use Rattle.wac_binary.specs.Bytes.{value}
use Rattle.wac_binary.specs.Format.{ValIsInFormat}
use Rattle.wac_binary.proofs.declarations.size.values_size.Given as goal

abbrev pub invariant-loop-t : goal.invariant-loop-t
invariant-loop-t l = record {
  is : l.size ≡ length (unsigned (length l.types)) + length (flat_map value (take l.t-index l.types));
  small : l.size ≤ 2 ^ 64 + l.t-index * (2 ^ 32);
  in_format : AllByRecursion ValIsInFormat (take l.t-index l.types);
}
