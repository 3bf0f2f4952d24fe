use Rattle.wac_encode_tests.proofs.RootItems.{bound-more, on-ok-is}
use Rattle.wac_encode_tests.proofs.opened.add_bound.Goals as goal

pub returns-then-is_bound : goal.returns-then-is_bound
returns-then-is_bound g c = bound-more c.args.merged c.args.state.now c.args.bound.now.keys c.insert.new.self.keys c.args.resource (on-ok-is c.insert.result c.expect.result c.expect.ensures c.insert.ensures.keys) (c.is_bound.ensures.bound c.if-is_bound.true) c.requires
