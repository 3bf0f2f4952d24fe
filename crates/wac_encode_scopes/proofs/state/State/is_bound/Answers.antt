use Rattle.wac_encode_scopes.proofs.Stepped.{found-is-bound}
use Rattle.wac_encode_scopes.proofs.state.State.is_bound.Goals as goal

pub returns-in-Some-clause-bound : goal.returns-in-Some-clause-bound
returns-in-Some-clause-bound c is = found-is-bound c.step_law.ensures.reaches c.args.merged c.args.self.now c.args.resource c.find.result.0 c.in-Some.field-0 c.in-Some.is c.find.ensures.found
