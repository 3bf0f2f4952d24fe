use Rattle.std.proofs.Common.{length, refl, arith}
use Rattle.std.proofs.lemmas.Option.{slice_get_read}
use Rattle.wac_edges.proofs.lemmas.cycles.CycleSearch.{below_kept, within_set, descends_more, descends_all}
use Rattle.wac_edges.proofs.cycles.cycles.descends.Goals as goal

pub highest-requires : goal.highest-requires
highest-requires c =
    let targets = c.args.targets.now in
    below_kept (length targets) (length c.args.ranks.now) c.index-targets-a.result.keys c.requires.long
    (within_set targets c.loop-a.a c.index-targets-a.result c.requires.within (slice_get_read targets (length targets) c.loop-a.a c.index-targets-a.result refl c.loop-a-test.true c.index-targets-a.is))

pub loop-a-preserved : goal.loop-a-preserved
loop-a-preserved c =
    let targets = c.args.targets.now in
    descends_more targets c.args.ranks.now c.loop-a.a c.highest.result c.index-targets-a.result (slice_get_read targets (length targets) c.loop-a.a c.index-targets-a.result refl c.loop-a-test.true c.index-targets-a.is) c.highest.ensures
    c.if-ranks-a.false c.loop-a.invariant

pub returns : goal.returns
returns c = descends_all c.args.targets.now c.args.ranks.now c.loop-a.a (omega arith) c.loop-a.invariant
