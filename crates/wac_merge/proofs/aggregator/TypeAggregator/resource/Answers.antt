use Rattle.wac_merge.proofs.BoundLookups.{bound-nothing, bound-own}
use Rattle.wac_merge.proofs.aggregator.TypeAggregator.resource.Goals as goal

pub returns : goal.returns
returns c q =
    let m = c.args.self.now.merge in
    let es = c.args.self.now.entries in
    bound-own es m c.args.id.now c.args.name.now c.binds.result c.binds.ensures c.if-not-binds.false c.own_resource.result c.own_resource.ensures q

pub returns-then-not-binds : goal.returns-then-not-binds
returns-then-not-binds c q =
    let m = c.args.self.now.merge in
    let es = c.args.self.now.entries in
    bound-nothing es m c.args.id.now c.args.name.now c.binds.result c.binds.ensures c.if-not-binds.true q
