use Rattle.wac_encode_faults.proofs.Steps.{AddsStepsBelow}
use Rattle.wac_encode_faults.proofs.ItemSteps.{ImportNeeds, HasItem}
use Rattle.wac_encode_faults.proofs.cycle.add_steps_of_imports.Given as goal

abbrev pub invariant-loop-number : goal.invariant-loop-number
invariant-loop-number l = AddsStepsBelow 0 l.number (HasItem (ImportNeeds l.fn.types l.fn.own l.fn.suppliers.entries l.fn.owners.entries) l.fn.imports) l.initial.targets l.targets
