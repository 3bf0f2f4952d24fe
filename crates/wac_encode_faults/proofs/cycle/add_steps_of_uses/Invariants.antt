use Rattle.std.proofs.Common.{take}
use Rattle.wac_encode_faults.specs.private.Owners.{AddsSteps}
use Rattle.wac_encode_faults.specs.private.Sets.{value_of}
use Rattle.wac_encode_faults.proofs.Steps.{HasNumber}
use Rattle.wac_encode_faults.proofs.cycle.add_steps_of_uses.Given as goal

abbrev pub invariant-loop-i : goal.invariant-loop-i
invariant-loop-i l = AddsSteps l.fn.from (HasNumber (value_of l.fn.suppliers.entries) l.fn.from (take l.i l.fn.used.keys)) l.initial.targets l.targets
