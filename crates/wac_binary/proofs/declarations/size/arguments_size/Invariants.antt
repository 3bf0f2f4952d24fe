use Rattle.std.proofs.Common.{◌≡◌, ◌+◌, ◌*◌, ◌≤◌, ◌^◌, length, take}
use Rattle.std.specs.List.{flat_map, AllByRecursion}
use Rattle.wac_binary.specs.Leb.{unsigned}
use Rattle.wac_binary.specs.Bytes.{argument}
use Rattle.wac_binary.specs.Format.{ArgumentIsInFormat}
use Rattle.wac_binary.proofs.declarations.size.arguments_size.Given as goal

abbrev pub invariant-loop-a : goal.invariant-loop-a
invariant-loop-a l = record {
  is : l.size ≡ length (unsigned (length l.arguments)) + length (flat_map (λ a. argument (a.0.now, a.1, a.2)) (take l.a-index l.arguments));
  small : l.size ≤ 2 ^ 64 + l.a-index * (2 ^ 64 + 2 ^ 33);
  in_format : AllByRecursion (λ a. ArgumentIsInFormat (a.0.now, a.1, a.2)) (take l.a-index l.arguments);
}
