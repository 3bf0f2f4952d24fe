use Rattle.wac_encode.proofs.BoundResources.{says-bound, says-unbound}
use Rattle.wac_encode.proofs.state.State.has_binding.Goals as goal

pub returns-then-is_bound : goal.returns-then-is_bound
returns-then-is_bound c = says-bound c.args.merged c.args.is_bound c.args.self.now c.args.resource (c.is_bound.ensures.bound c.if-is_bound.true)

pub returns-else-is_bound : goal.returns-else-is_bound
returns-else-is_bound c = says-unbound c.args.merged c.args.is_bound c.args.self.now c.args.resource (c.is_bound.ensures.unbound c.if-is_bound.false)
