use Rattle.std.proofs.Common.{take}
use Rattle.wac_merge_classes.specs.terms.Merge.{import_entries}
use Rattle.wac_merge_imports.specs.unions.MergedClasses.{AreImports}
use Rattle.wac_merge_resources.specs.renaming.MadeOf.{AreMade}
use Rattle.wac_merge_tables.specs.made.Made.{StayMade}
use Rattle.wac_merge_imports.specs.unions.WritingSteps.{AreImportsMadeOf, outside}
use Rattle.wac_types_collection.specs.private.subtyping.Extended.{IsExtended}
use Rattle.wac_merge_imports.proofs.unions.merged.class_imports.Given as goal

abbrev pub invariant-loop-i : goal.invariant-loop-i
invariant-loop-i l = record { extended : IsExtended l.fn.merged l.merged; made : AreMade l.asked.types.now l.renaming.became.now.named.now l.merged l.renamed.made; once : AreImportsMadeOf l.asked.types.now l.merged (outside l.asked.types.now l.renaming.became.now) l.renaming.became.now.named.now l.renamed.made l.asked.entries.now l.asked.classes.now.positions.items (take l.i l.order) (import_entries l.imports); stay : StayMade l.fn.renamed.made l.renamed.made; imports : AreImports l.asked.types.now l.merged l.asked.entries.now l.renaming.became.now.parts.now l.renaming.became.now.bindings.now l.renaming.became.now.fresh.now l.written (take l.i l.order) (import_entries l.imports) }
