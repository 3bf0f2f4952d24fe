use Rattle.wac_encode_tests.proofs.OpenScopes.{right-types}
use Rattle.wac_encode_tests.proofs.stacks.does.Goals as goal

pub returns-in-Value : goal.returns-in-Value
returns-in-Value g c = right-types c.args.items.now.types c.args.state.now c.write_value-written.new.state c.requires.right c.write_value-written.ensures.good c.write_value-written.ensures.types
