use Rattle.wac_encode_tests.proofs.OpenScopes.{root-types}
use Rattle.wac_encode_tests.proofs.stacks.ends.Goals as goal

pub returns-in-Nothing : goal.returns-in-Nothing
returns-in-Nothing g c = c.requires.right.root

pub import-requires : goal.import-requires
import-requires g c = root-types c.args.state.now.here.content c.write_outer-index.new.state.here.content c.write_outer-index.ensures.0 c.requires.right.root

pub import-requires-in-Inner : goal.import-requires-in-Inner
import-requires-in-Inner g c = root-types c.args.state.now.here.content c.write_inner-index.new.state.here.content c.write_inner-index.ensures.0 c.requires.right.root
