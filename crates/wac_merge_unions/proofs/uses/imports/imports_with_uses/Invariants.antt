use Rattle.std.proofs.Common.{take}
use Rattle.wac_merge_classes.specs.entries.Bindings.{AreHeld}
use Rattle.wac_merge_classes.specs.entries.Classes.{by_names}
use Rattle.wac_merge_classes.specs.terms.Merge.{import_entries}
use Rattle.wac_types_collection.specs.private.subtyping.Extended.{IsExtended}
use Rattle.wac_merge_unions.specs.uses.Using.{AreUsing}
use Rattle.wac_merge_unions.proofs.uses.imports.imports_with_uses.Given as goal

abbrev pub invariant-loop-i : goal.invariant-loop-i
invariant-loop-i l = record {
  extended : IsExtended l.fn.merged l.merged;
  held : AreHeld l.merged (import_entries l.imports);
  using : AreUsing by_names l.asked.types.now l.asked.entries.now l.merged (import_entries (take l.i l.bare)) (import_entries l.imports);
}
