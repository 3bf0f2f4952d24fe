use Rattle.std.proofs.Common.{◌≡◌, ◌≤◌, length, drop}
use Rattle.wac_types_shapes.specs.primitives.Name.{Name}
use Rattle.wac_types_collection.specs.collection.Held.{core_imports}
use Rattle.wac_merge_trees.specs.private.coding.ModuleCoding.{in_maps, AreFull}
use Rattle.wac_merge_trees.proofs.coding.modules.imports.Given as goal

abbrev pub invariant-loop-i : goal.invariant-loop-i
invariant-loop-i l = record {
  within : l.i ≤ length l.imports;
  under : (m n : Name) → in_maps l.modules.entries m n ≡ core_imports (drop l.i l.imports) m n;
  full : AreFull l.modules.entries;
}

abbrev pub decreases-loop-i : goal.decreases-loop-i
decreases-loop-i l = l.i
