use Rattle.wac_merge_classes.proofs.lemmas.terms.OrderGroups.{IsGrouping}
use Rattle.wac_merge_agreement.proofs.agreement.order.grouped.Given as goal

abbrev pub invariant-loop-i : goal.invariant-loop-i
invariant-loop-i l = IsGrouping l.entries l.i l.begun l.instances.items l.type_items.items l.others.items
