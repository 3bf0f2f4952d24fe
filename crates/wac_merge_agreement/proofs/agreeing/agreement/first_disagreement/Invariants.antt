use Rattle.std.proofs.Common.{map}
use Rattle.wac_merge_tables.specs.private.tables.NodeViews.{item_view}
use Rattle.wac_merge_agreement.specs.private.agreeing.Groups.{IsGoing, left}
use Rattle.wac_merge_agreement.specs.private.agreeing.Rows.{groups_view}
use Rattle.wac_merge_agreement.proofs.agreeing.agreement.first_disagreement.Given as goal

abbrev pub invariant-loop-next : goal.invariant-loop-next
invariant-loop-next l = IsGoing l.nodes (map item_view l.items) l.classes l.walk l.next

abbrev pub decreases-loop-next : goal.decreases-loop-next
decreases-loop-next l = left l.nodes l.next (groups_view l.walk.groups.keys)
