use Rattle.std.proofs.Common.{length}
use Rattle.wac_edges.proofs.lemmas.cycles.CycleSearch.{below_first, below_rest, under_next}
use Rattle.wac_edges.proofs.cycles.cycles.highest.Goals as goal

pub higher-highest-requires : goal.higher-highest-requires
higher-highest-requires c = below_first (length c.args.ranks.now) c.in-Some.b.now c.next.new.self c.loop-b.b-iterator c.in-Some.ensures.steps c.loop-b.invariant.low

pub loop-b-preserved : goal.loop-b-preserved
loop-b-preserved c = record {
  low = below_rest (length c.args.ranks.now) c.in-Some.b.now c.next.new.self c.loop-b.b-iterator c.in-Some.ensures.steps c.loop-b.invariant.low;
  under = under_next c.args.ranks.now c.loop-b.highest c.higher-highest.result c.in-Some.b.now c.next.new.self c.loop-b.b-iterator c.args.steps.now.keys c.in-Some.ensures.steps c.higher-highest.ensures.other c.higher-highest.ensures.own c.loop-b.invariant.under;
}
