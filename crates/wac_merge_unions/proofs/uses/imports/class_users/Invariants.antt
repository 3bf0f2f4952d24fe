use Rattle.std.proofs.Common.{◌≡◌, Vec, length, take}
use Rattle.std.specs.Global.{Global}
use Rattle.wac_types_shapes.specs.declared.shapes.component.InterfaceId.{InterfaceId}
use Rattle.wac_merge_classes.specs.entries.Classes.{by_names, class_names}
use Rattle.wac_merge_unions.specs.uses.KeptUses.{instances}
use Rattle.wac_merge_unions.proofs.lemmas.uses.ClassFolds.{HaveFolded}
use Rattle.wac_merge_unions.proofs.uses.imports.class_users.Given as goal

abbrev pub invariant-loop-i : goal.invariant-loop-i
invariant-loop-i l = record { counted : length l.users.items ≡ length (class_names by_names l.entries); users : HaveFolded (λ (v : Vec InterfaceId Global). v.items) (λ n xs. instances xs) l.entries (take l.i l.entries) l.users.items }
