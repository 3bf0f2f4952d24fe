use Rattle.std.proofs.Common.{◌<◌, length, rules}
use Rattle.std.proofs.Math.ListN.{length-set}
use Rattle.wac_edges.proofs.lemmas.cycles.CycleSearch.{popped_below, below_popped, below_kept}
use Rattle.wac_edges.proofs.cycles.ranks.close.Goals as goal

pub bounds-ranks-n : goal.bounds-ranks-n
bounds-ranks-n c = popped_below (length c.loop-members.ranks) c.in-Some.n c.pop.new.self.items c.loop-members.members.items c.in-Some.ensures.items c.loop-members.invariant

pub offset_bounds-ranks-n : goal.offset_bounds-ranks-n
offset_bounds-ranks-n c =
    let low : c.in-Some.n < length c.loop-members.ranks = popped_below (length c.loop-members.ranks) c.in-Some.n c.pop.new.self.items c.loop-members.members.items c.in-Some.ensures.items c.loop-members.invariant in
    search rules

pub loop-members-preserved : goal.loop-members-preserved
loop-members-preserved c =
    below_kept (length c.loop-members.ranks) _ c.pop.new.self.items (length-set c.loop-members.ranks c.in-Some.n c.args.rank)
    (below_popped (length c.loop-members.ranks) c.in-Some.n c.pop.new.self.items c.loop-members.members.items c.in-Some.ensures.items c.loop-members.invariant)
