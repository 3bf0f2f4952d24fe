use Rattle.std.proofs.Common.{rules}
use Rattle.wac_encode_tests.proofs.RootItems.{bound-empty}
use Rattle.wac_encode_tests.proofs.opened.bound_resources.Goals as goal

pub loop-i-init : goal.loop-i-init
loop-i-init g c = bound-empty c.args.merged c.args.state.now c.new-bound.result.keys (search rules)
