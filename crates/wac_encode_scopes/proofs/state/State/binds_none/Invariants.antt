use Rattle.std.proofs.Common.{take}
use Rattle.wac_encode_scopes.proofs.Owned.{NoneOf}
use Rattle.wac_encode_scopes.proofs.state.State.binds_none.Given as goal

abbrev pub invariant-loop-i : goal.invariant-loop-i
invariant-loop-i l = NoneOf l.types l.merged l.self l.interface.uses (take l.i l.interface.exports)
