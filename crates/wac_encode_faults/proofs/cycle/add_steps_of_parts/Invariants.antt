use Rattle.std.proofs.Common.{take}
use Rattle.wac_encode_faults.specs.private.DefinitionOwners.{IsOwnerOfType}
use Rattle.wac_encode_faults.specs.private.Owners.{AddsSteps}
use Rattle.wac_encode_faults.proofs.OwnedSteps.{OneHas}
use Rattle.wac_encode_faults.proofs.cycle.add_steps_of_parts.Given as goal

abbrev pub invariant-loop-i : goal.invariant-loop-i
invariant-loop-i l = AddsSteps l.fn.from (OneHas (IsOwnerOfType l.fn.types l.fn.owners.entries) l.fn.from (take l.i l.fn.found)) l.initial.targets l.targets
