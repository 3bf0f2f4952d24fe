-- No two imports of a merge are of one class.
use Rattle.std.specs.Prelude.{List}
use Rattle.wac_types_collection.specs.collection.Collection.{Collection}
use Rattle.wac_merge_classes.specs.entries.Classes.{Entry, by_names}
use Rattle.wac_merge_classes.specs.terms.Faults.{HasNoCircle}
use Rattle.wac_merge_classes.specs.terms.Merge.{IsMerge, Merged}
use Rattle.wac_encode_imports.specs.private.Imports.{HasDistinctClasses}

-- No two imports of a merge are of one class, if no class depends on itself through others.
abbrev pub DistinctClassesLaw : Type 0
DistinctClassesLaw = (c : Collection) (es : List Entry) (m : Merged) → IsMerge by_names c es m → HasNoCircle by_names c es → HasDistinctClasses m
