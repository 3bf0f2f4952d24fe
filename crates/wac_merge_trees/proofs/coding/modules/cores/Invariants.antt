use Rattle.std.proofs.Common.{◌≡◌, ◌≤◌, length, drop}
use Rattle.wac_types_shapes.specs.primitives.Name.{Name}
use Rattle.wac_types_collection.specs.collection.Held as held
use Rattle.wac_types_shapes.specs.primitives.Core.{no_item}
use Rattle.wac_merge_tables.specs.private.tables.NodeViews.{core_view}
use Rattle.wac_merge_trees.specs.private.coding.ModuleCoding.{look}
use Rattle.wac_merge_trees.proofs.coding.modules.cores.Given as goal

abbrev pub invariant-loop-i : goal.invariant-loop-i
invariant-loop-i l = record { within : l.i ≤ length l.items; under : (n : Name) → look no_item core_view l.map.entries n ≡ held.core_under (drop l.i l.items) n }

abbrev pub decreases-loop-i : goal.decreases-loop-i
decreases-loop-i l = l.i
