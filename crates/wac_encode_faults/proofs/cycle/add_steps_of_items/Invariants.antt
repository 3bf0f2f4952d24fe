use Rattle.std.proofs.Common.{◌≤◌, ◌-◌}
use Rattle.wac_encode_faults.proofs.Steps.{AddsStepsBelow}
use Rattle.wac_encode_faults.proofs.ItemSteps.{ItemNeeds, HasItem}
use Rattle.wac_encode_faults.proofs.cycle.add_steps_of_items.Given as goal

abbrev pub invariant-loop-number : goal.invariant-loop-number
invariant-loop-number l = record {
  low : l.fn.first ≤ l.number;
  added : AddsStepsBelow l.fn.first (l.number - l.fn.first) (HasItem (ItemNeeds l.fn.types l.fn.suppliers.entries l.fn.owners.entries) l.fn.items) l.initial.targets l.targets;
}
