use Rattle.wac_encode.proofs.BoundResources.{adds-none, adds-one}
use Rattle.wac_encode.proofs.state.State.add_if.Goals as goal

pub returns-then-not-has_binding : goal.returns-then-not-has_binding
returns-then-not-has_binding c = adds-none c.args.merged c.args.is_bound c.args.self.now c.args.resource c.args.found.now.keys c.has_binding.result c.has_binding.ensures c.if-not-has_binding.true

pub returns : goal.returns
returns c = adds-one c.args.merged c.args.is_bound c.args.self.now c.args.resource c.args.found.now.keys c.insert.new.self.keys c.has_binding.result c.has_binding.ensures c.if-not-has_binding.false c.in_ok-insert.ensures.keys
