use Rattle.std.proofs.Common.{is_some, ap}
use Rattle.wac_encode_tests.proofs.RootItems.{on-ok-is}
use Rattle.wac_encode_tests.proofs.RootMerges.{class-more}
use Rattle.wac_encode_tests.proofs.merged.add_if_bound.Goals as goal

pub returns-in-Some : goal.returns-in-Some
returns-in-Some g c = class-more c.args.merge.now c.args.bound.now.keys c.insert.new.self.keys c.args.resource (on-ok-is c.insert.result c.expect.result c.expect.ensures c.insert.ensures.keys) (ap is_some (c.in-Some.ensures).first) c.requires.bound
