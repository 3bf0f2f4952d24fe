use Rattle.wac_encode_scopes.proofs.Stepped.{goes-both, all-both}
use Rattle.wac_encode_scopes.proofs.Paying.{priced-stays, pays-both, exit-answer, exit-then}
use Rattle.wac_encode_scopes.proofs.state.State.bring.Goals as goal

pub returns-in_default-clause-goes : goal.returns-in_default-clause-goes
returns-in_default-clause-goes c d closed = c.in_ok-out.ensures.goes d

pub returns-in_err-own-clause-types : goal.returns-in_err-own-clause-types
returns-in_err-own-clause-types c = all-both c.args.self.now c.reach_named.new.self c.bring_named.new.self c.reach_named.ensures.types c.bring_named.ensures.types

pub returns-clause-goes : goal.returns-clause-goes
returns-clause-goes c d closed = goes-both c.step_law.ensures.follows d c.args.merged c.args.self.now c.reach_named.new.self c.bring_named.new.self (c.in_ok-out.ensures.goes d) (c.in_ok-own.ensures.goes d closed)

pub returns-clause-types : goal.returns-clause-types
returns-clause-types c = all-both c.args.self.now c.reach_named.new.self c.bring_named.new.self c.reach_named.ensures.types c.bring_named.ensures.types

pub returns-in_err-out-clause-paid : goal.returns-in_err-out-clause-paid
returns-in_err-out-clause-paid c d held ts covers priced = exit-answer d c.args.merged ts 0 c.args.self.now _ _ c.from_residual.result c.from_residual.ensures.1 (c.in_err-out.ensures.paid d held ts covers priced)

pub returns-in_default-clause-paid : goal.returns-in_default-clause-paid
returns-in_default-clause-paid c d held ts covers priced = c.in_ok-out.ensures.paid d held ts covers priced

pub returns-in_err-own-clause-paid : goal.returns-in_err-own-clause-paid
returns-in_err-own-clause-paid c d held ts covers priced =
    exit-then d c.args.merged ts 0 0 c.args.self.now c.reach_named.new.self _ _ c.from_residual-in_err-own.result c.from_residual-in_err-own.ensures.1
    (c.in_ok-out.ensures.paid d held ts covers priced) (c.in_err-own.ensures.paid d held ts covers (priced-stays c.args.merged c.args.self.now c.reach_named.new.self c.reach_named.ensures.types priced))

pub returns-clause-paid : goal.returns-clause-paid
returns-clause-paid c d held ts covers priced =
    pays-both d c.args.merged ts 0 0 c.args.self.now c.reach_named.new.self c.bring_named.new.self (c.in_ok-out.ensures.paid d held ts covers priced)
    (c.in_ok-own.ensures.paid d held ts covers (priced-stays c.args.merged c.args.self.now c.reach_named.new.self c.reach_named.ensures.types priced))
