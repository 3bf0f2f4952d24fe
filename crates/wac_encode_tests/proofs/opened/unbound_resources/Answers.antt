use Rattle.std.proofs.Common.{rules}
use Rattle.wac_encode_tests.proofs.RootItems.{none-of-empty}
use Rattle.wac_encode_tests.proofs.opened.unbound_resources.Goals as goal

pub loop-i-init : goal.loop-i-init
loop-i-init g c = none-of-empty c.args.merged c.args.state.now c.new-own.result.keys (search rules)
