use Rattle.wac_encode_faults.proofs.OwnedSteps.{SoFar}
use Rattle.wac_encode_faults.proofs.cycle.add_steps_to.Given as goal

abbrev pub invariant-loop-to : goal.invariant-loop-to
invariant-loop-to l = SoFar l.fn.from l.fn.numbers.keys l.to-iterator l.initial.targets l.targets
