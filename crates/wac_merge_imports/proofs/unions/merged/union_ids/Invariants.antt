use Rattle.std.proofs.Common.{◌≡◌, ℕ, Option, Some, length, map, slice_get, string_bytes}
use Rattle.std.specs.Option.{option_map}
use Rattle.wac_types_shapes.specs.primitives.Name.{Name}
use Rattle.wac_merge_imports.specs.unions.MergedClasses.{IsUnionId}
use Rattle.wac_merge_classes.specs.declared.terms.parts.Union.{Union}
use Rattle.wac_merge_imports.proofs.unions.merged.union_ids.Given as goal

abbrev pub invariant-loop-position : goal.invariant-loop-position
invariant-loop-position l = record { counted : length l.ids.items ≡ l.position; ids : (u : ℕ) (x : Union) (o : Option Name) → slice_get l.unions.unions.items u ≡ Some x → slice_get (map (option_map string_bytes) l.ids.items) u ≡ Some o → IsUnionId l.types l.entries l.unions.parts.items u x o }
