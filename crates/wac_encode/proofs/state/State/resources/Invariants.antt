use Rattle.wac_encode.specs.private.Resources.{AreBelow}
use Rattle.wac_encode.proofs.state.State.resources.Given as goal

abbrev pub invariant-loop-i : goal.invariant-loop-i
invariant-loop-i l = AreBelow l.fn.types l.fn.merged l.fn.is_bound l.fn.self l.i l.found.keys
