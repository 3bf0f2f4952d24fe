use Rattle.wac_encode_tests.proofs.RootDefinitions.{can-define}
use Rattle.wac_encode_tests.proofs.defined.assert_definable.Goals as goal

pub returns : goal.returns
returns g c = can-define c.args.items.now.types c.args.merged c.args.state.now c.args.item c.bound_resources-bound.result.keys c.bound_resources-bound.ensures c.lowest_fault-fault.result c.expect.result c.expect.ensures c.lowest_fault-fault.ensures c.in-None.is
