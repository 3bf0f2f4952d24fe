use Rattle.std.proofs.Common.{◌≡◌, ◌++◌, length}
use Rattle.std.specs.List.{AllByRecursion}
use Rattle.wac_merge_tables.specs.private.tables.Nodes.{AreCoreItems}
use Rattle.wac_merge_tables.specs.private.tables.NodeViews.{core_modules}
use Rattle.wac_merge_trees.specs.private.coding.ModuleCoding.{maps_items}
use Rattle.wac_merge_trees.proofs.coding.modules.grouped.Given as goal

-- what is listed and what is left are all
abbrev pub invariant-loop-source : goal.invariant-loop-source
invariant-loop-source l = record {
  items : core_modules l.listed.items ++ maps_items l.modules.entries ≡ maps_items l.fn.modules.entries;
  each : AllByRecursion (λ e. AreCoreItems e.1) (core_modules l.listed.items);
}

abbrev pub decreases-loop-source : goal.decreases-loop-source
decreases-loop-source l = length l.modules.entries
