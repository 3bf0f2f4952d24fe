use Rattle.std.specs.Prelude.{true}
use Rattle.wac_encode_tests.proofs.RootItems.{new-root}
use Rattle.wac_encode_tests.proofs.depth.imported.Goals as goal

pub loop-i-init : goal.loop-i-init
loop-i-init g c = new-root c.args.items.now.types true c.root-state.result (c.root-state.ensures.good c.args.items.now.types true) c.root-state.ensures.content
