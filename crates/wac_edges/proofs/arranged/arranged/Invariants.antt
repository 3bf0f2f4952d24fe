use Rattle.wac_edges.proofs.ArrangedSteps.{IsArranging, left_to_do}
use Rattle.wac_edges.proofs.arranged.arranged.Given as goal

abbrev pub invariant-loop-step : goal.invariant-loop-step
invariant-loop-step l = IsArranging l.depends l.all l.opened.items l.steps.items l.order.items

abbrev pub decreases-loop-step : goal.decreases-loop-step
decreases-loop-step l = left_to_do l.depends l.all l.opened.items l.steps.items
