use Rattle.std.proofs.Common.{◌≡◌, ◌+◌, ℕ, length, map, slice_get, string_bytes, Some}
use Rattle.std.specs.Option.{option_map}
use Rattle.wac_types_collection.specs.collection.Collection.{HasInterface}
use Rattle.wac_types_shapes.specs.declared.shapes.component.InterfaceId.{InterfaceId}
use Rattle.wac_merge_resources.specs.renaming.MadeOf.{AreMade}
use Rattle.wac_merge_tables.specs.made.Made.{StayMade}
use Rattle.wac_types_collection.specs.private.subtyping.Extended.{IsExtended}
use Rattle.wac_merge_classes.specs.declared.terms.parts.Union.{Union}
use Rattle.wac_merge_imports.specs.unions.SharedUnions.{AreShared, IsWrittenLast, first_in}
use Rattle.wac_merge_imports.specs.unions.WritingSteps.{IsUnionMadeOf, in_parts}
use Rattle.wac_merge_imports.proofs.lemmas.unions.WritingUnions.{AreAllWritten}
use Rattle.wac_merge_imports.proofs.unions.writing.write_unions.Given as goal

abbrev pub invariant-loop-done : goal.invariant-loop-done
invariant-loop-done l = record {
  extended : IsExtended l.initial.merged l.merged;
  made : AreMade l.renaming.types.now l.renaming.became.now.named.now l.merged l.renamed.made;
  counted : length l.written.items ≡ l.done;
  held : (j : ℕ) (w : InterfaceId) → slice_get l.written.items j ≡ Some w → HasInterface l.merged w;
  once : (j u : ℕ) (w : InterfaceId) (x : Union) → slice_get l.written.items j ≡ Some w → j + u + 1 ≡ length l.unions.unions.items → slice_get l.unions.unions.items u ≡ Some x → IsUnionMadeOf l.renaming.types.now l.merged (in_parts l.renaming.types.now l.renaming.became.now) l.renaming.became.now.named.now l.renamed.made x w;
  stay : StayMade l.initial.renamed.made l.renamed.made;
  shared : AreShared l.renaming.types.now l.merged l.unions.unions.items l.unions.parts.items (map (option_map string_bytes) l.ids) (first_in l.seen) (IsWrittenLast (length l.unions.unions.items) l.written.items);
  written : AreAllWritten l.renaming.types.now l.merged l.renaming.became.now l.unions.unions.items (map (option_map string_bytes) l.ids) l.written.items;
}
