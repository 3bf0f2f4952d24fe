use Rattle.std.proofs.Common.{◌≡◌, ◌+◌, ◌*◌, ◌≤◌, ◌^◌, length, take}
use Rattle.std.specs.List.{flat_map, AllByRecursion}
use Rattle.wac_binary.specs.Leb.{unsigned}
use Rattle.wac_binary.specs.Bytes.{field}
use Rattle.wac_binary.specs.Format.{FieldIsInFormat}
use Rattle.wac_binary.proofs.declarations.size.fields_size.Given as goal

abbrev pub invariant-loop-field : goal.invariant-loop-field
invariant-loop-field l = record {
  is : l.size ≡ length (unsigned (length l.fields)) + length (flat_map (λ f. field (f.0.now, f.1)) (take l.field-index l.fields));
  small : l.size ≤ 2 ^ 64 + l.field-index * (2 ^ 64 + 2 ^ 33);
  in_format : AllByRecursion (λ f. FieldIsInFormat (f.0.now, f.1)) (take l.field-index l.fields);
}
