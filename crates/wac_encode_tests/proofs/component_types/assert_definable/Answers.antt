use Rattle.wac_encode_tests.proofs.WorldDefinitions.{definable}
use Rattle.wac_encode_tests.proofs.component_types.assert_definable.Goals as goal

pub returns : goal.returns
returns g c = definable c.definition_law.ensures c.args.types.now c.args.world c.new-bound.result.keys c.new-bound.ensures.empty c.lowest_fault-fault.result c.expect.result c.expect.ensures c.lowest_fault-fault.ensures c.in-None.is
