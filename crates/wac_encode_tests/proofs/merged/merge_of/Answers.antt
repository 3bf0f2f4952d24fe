use Rattle.wac_encode_tests.proofs.RootMerges.{merge-is}
use Rattle.wac_encode_tests.proofs.merged.merge_of.Goals as goal

pub returns : goal.returns
returns g c =
    let made = c.finish.ensures in
    merge-is c.args.items.now.types c.aggregated-aggregator.result.entries c.finish.result c.expect.result c.expect.ensures c.aggregated-aggregator.ensures made.finished made.merged made.bound made.before made.faults made.held made.agreed made.ordered
