use Rattle.wac_encode_tests.proofs.RootItems.{new-root}
use Rattle.wac_encode_tests.proofs.roots.imported.Goals as goal

pub import_all-requires-clause-root : goal.import_all-requires-clause-root
import_all-requires-clause-root g c = new-root c.args.items.now.types c.args.merged c.root-state.result (c.root-state.ensures.good c.args.items.now.types c.args.merged) c.root-state.ensures.content
