use Rattle.std.proofs.Common.{◌≡◌, Vec, [], fold, length, map, take}
use Rattle.std.specs.Global.{Global}
use Rattle.wac_types_shapes.specs.declared.shapes.component.InterfaceId.{InterfaceId}
use Rattle.wac_merge_classes.specs.entries.Classes.{by_names, class_names}
use Rattle.wac_merge_imports.specs.unions.MergedClasses.{with_root}
use Rattle.wac_merge_unions.proofs.lemmas.uses.ClassFolds.{HaveFolded}
use Rattle.wac_merge_imports.proofs.unions.merged.class_roots.Given as goal

abbrev pub invariant-loop-i : goal.invariant-loop-i
invariant-loop-i l = record { counted : length l.roots.items ≡ length (class_names by_names l.entries); roots : HaveFolded (λ (v : Vec InterfaceId Global). v.items) (λ n xs. fold with_root [] (map (λ e. e.kind) xs)) l.entries (take l.i l.entries) l.roots.items }
