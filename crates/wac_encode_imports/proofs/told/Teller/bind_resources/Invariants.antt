use Rattle.wac_encode_imports.specs.private.Told.{BindsBelow, BindsNames}
use Rattle.wac_encode_imports.proofs.told.Teller.bind_resources.Given as goal

abbrev pub invariant-loop-i : goal.invariant-loop-i
invariant-loop-i l = BindsBelow l.fn.self l.i l.initial.state l.state × BindsNames l.fn.self l.initial.state l.state
