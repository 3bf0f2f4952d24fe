use Rattle.wac_encode_tests.proofs.RootMerges.{no-fault}
use Rattle.wac_encode_tests.proofs.merged.assert_no_fault.Goals as goal

pub returns : goal.returns
returns g c =
    no-fault c.args.types.now c.args.merge.now c.args.item c.args.bound.now.keys c.requires.merge c.requires.bound c.lowest_fault-fault.result c.expect.result c.expect.ensures c.lowest_fault-fault.ensures c.in-None.is
