use Rattle.wac_binary.specs.declared.sorts.Description.TheVariants as e
use Rattle.wac_encode_tests.proofs.OpenScopes.{root-import, on-ok-is}
use Rattle.wac_encode_tests.proofs.stacks.import.Goals as goal

pub returns : goal.returns
returns g c = root-import c.args.state.now.here.content c.import-imported.new.self.here.content _ (e.Instance c.args.index) (on-ok-is c.import-imported.result c.expect.result c.expect.ensures c.import-imported.ensures.content)
