use Rattle.std.specs.Prelude.{true}
use Rattle.wac_encode_tests.proofs.OpenScopes.{right-root}
use Rattle.wac_encode_tests.proofs.stacks.written.Goals as goal

pub loop-step-init : goal.loop-step-init
loop-step-init g c = right-root c.args.items.now.types c.root-state.result (c.root-state.ensures.good c.args.items.now.types true) c.root-state.ensures.content
