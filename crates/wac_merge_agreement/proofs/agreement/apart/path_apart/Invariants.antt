use Rattle.std.proofs.Common.{◌+◌}
use Rattle.wac_types_shapes.specs.declared.shapes.component.ItemKind.TheVariants as kind
use Rattle.wac_merge_tables.specs.private.tables.NodeViews.{item_view}
use Rattle.wac_merge_agreement.specs.private.agreement.Levels.{AreLevels, IsLevel, left_at, left_in}
use Rattle.wac_merge_agreement.proofs.agreement.apart.path_apart.Given as goal

abbrev pub invariant-loop-inner : goal.invariant-loop-inner
invariant-loop-inner l = record {
  levels : AreLevels l.types l.nodes (item_view l.fn.first) (item_view l.fn.second) l.fn.kind l.levels.items (item_view l.level.first) (item_view l.level.second) (kind.Instance l.level.interface);
  level : IsLevel l.types l.nodes l.level;
}

abbrev pub decreases-loop-inner : goal.decreases-loop-inner
decreases-loop-inner l = left_in l.types l.levels.items + left_at l.types l.level
