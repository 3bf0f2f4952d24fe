use Rattle.std.proofs.Common.{rules}
use Rattle.wac_encode_tests.proofs.RootMerges.{class-none}
use Rattle.wac_encode_tests.proofs.merged.class_resources.Goals as goal

pub loop-i-init : goal.loop-i-init
loop-i-init g c = class-none c.args.merge.now c.new-bound.result.keys (search rules)
