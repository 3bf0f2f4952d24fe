use Rattle.std.proofs.Common.{◌≡◌, map, length, take}
use Rattle.wac_types_collection.specs.private.subtyping.Extended.{IsExtended}
use Rattle.wac_merge_tables.specs.made.Made.{StayMade}
use Rattle.wac_merge_imports.specs.unions.WritingSteps.{AreItemsMadeOf, AreRenamedIn, AreWrittenItems, in_parts}
use Rattle.wac_merge_imports.proofs.unions.writing.write_exports.Given as goal

abbrev pub invariant-loop-i : goal.invariant-loop-i
invariant-loop-i l = record {
  extended : IsExtended l.initial.merged l.merged;
  right : AreRenamedIn l.renaming.types.now l.merged l.renaming.became.now l.part l.renamed;
  written : AreWrittenItems l.renaming.types.now l.merged l.renaming.became.now (length l.next.unions.now.unions.items) l.next.written.now l.next.union (take l.i l.exports) l.items;
  once : AreItemsMadeOf l.renaming.types.now l.merged (in_parts l.renaming.types.now l.renaming.became.now) l.renaming.became.now.named.now l.renamed.made (take l.i l.exports) l.items;
  stay : StayMade l.fn.renamed.made l.renamed.made;
  names : map (λ e. e.0) l.items ≡ map (λ e. e.0) (take l.i l.exports);
}
