use Rattle.wac_encode_interfaces.proofs.Answered.{memory-error}
use Rattle.wac_encode_interfaces.proofs.worlds.WorldTypes.insert.Goals as goal

pub returns-clause-put : goal.returns-clause-put
returns-clause-put c = rw (← c.in_ok-shared.ensures) (λ w. c.in_ok-insert.ensures.updates.0 w)

pub returns-in_err-shared-clause-memory : goal.returns-in_err-shared-clause-memory
returns-in_err-shared-clause-memory c = memory-error c.from_residual.result c.from_residual.ensures.1

pub returns-in_err-insert-clause-memory : goal.returns-in_err-insert-clause-memory
returns-in_err-insert-clause-memory c = memory-error c.from_residual-in_err-insert.result c.from_residual-in_err-insert.ensures.1
