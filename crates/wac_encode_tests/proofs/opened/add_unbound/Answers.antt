use Rattle.wac_encode_tests.proofs.RootItems.{none-of-more, on-ok-is}
use Rattle.wac_encode_tests.proofs.opened.add_unbound.Goals as goal

pub returns-then-not-is_bound : goal.returns-then-not-is_bound
returns-then-not-is_bound g c = none-of-more c.args.merged c.args.state.now c.args.unbound.now.keys c.insert.new.self.keys c.args.resource (on-ok-is c.insert.result c.expect.result c.expect.ensures c.insert.ensures.keys) (c.is_bound.ensures.unbound c.if-not-is_bound.true) c.requires
