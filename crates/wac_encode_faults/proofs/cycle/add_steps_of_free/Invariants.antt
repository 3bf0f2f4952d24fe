use Rattle.std.proofs.Common.{take}
use Rattle.wac_encode_faults.specs.Cycle.{owner_of}
use Rattle.wac_encode_faults.specs.private.Owners.{AddsSteps}
use Rattle.wac_encode_faults.proofs.Steps.{HasNumber}
use Rattle.wac_encode_faults.proofs.cycle.add_steps_of_free.Given as goal

abbrev pub invariant-loop-i : goal.invariant-loop-i
invariant-loop-i l = AddsSteps l.fn.from (HasNumber (owner_of l.fn.owners.entries) l.fn.from (take l.i l.fn.free.keys)) l.initial.targets l.targets
