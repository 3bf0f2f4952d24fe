use Rattle.std.proofs.Common.{◌<◌, arith, ◌∙◌}
use Rattle.std.specs.Prelude.{slice_index}
use Rattle.std.proofs.Math.ListN.{length-set}
use Rattle.std.proofs.lemmas.Option.{slice_get-get_or}
use Rattle.wac_edges.proofs.ArrangedPlaces.{below_at, ranks_all, ranks_next}
use Rattle.wac_edges.proofs.arranged.ranks.Goals as goal

pub index_mut-requires : goal.index_mut-requires
index_mut-requires c =
    let low : slice_index c.args.all.now c.loop-i.i < c.args.count = below_at c.args.count c.loop-i.i c.args.all.now c.requires.below c.loop-i-test.true in
    omega (arith, low, c.loop-i.ranks.ok.0, c.loop-i.invariant.counted)

pub loop-i-preserved : goal.loop-i-preserved
loop-i-preserved c =
    let all = c.args.all.now in
    let n = slice_index all c.loop-i.i in
    let low : slice_index c.args.all.now c.loop-i.i < c.args.count = below_at c.args.count c.loop-i.i c.args.all.now c.requires.below c.loop-i-test.true in
    record {
      counted = length-set c.loop-i.ranks.items n c.loop-i.i ∙ c.loop-i.invariant.counted;
      ranks = ranks_next all c.loop-i.ranks.items c.loop-i.i n c.requires.once (slice_get-get_or all c.loop-i.i 0 c.loop-i-test.true) (omega (arith, low, c.loop-i.invariant.counted)) c.loop-i.invariant.ranks;
    }

pub returns-clause-ranks : goal.returns-clause-ranks
returns-clause-ranks c = ranks_all c.args.all.now c.loop-i.ranks.items c.loop-i.i (omega (arith, c.loop-i-test.false)) c.loop-i.invariant.ranks
