use Rattle.std.proofs.Common.{length}
use Rattle.wac_edges.proofs.lemmas.cycles.CycleSearch.{popped_below, below_popped}
use Rattle.wac_edges.proofs.cycles.ranks.Search.look.Goals as goal

pub follow-requires-clause-low : goal.follow-requires-clause-low
follow-requires-clause-low c = popped_below (length c.args.targets.now) c.in-Some.b c.pop.new.self.items c.args.self.now.pending.items c.in-Some.ensures.items c.requires.among.pending

pub follow-requires-clause-among : goal.follow-requires-clause-among
follow-requires-clause-among c = record {
  placed = c.requires.among.placed;
  ranked = c.requires.among.ranked;
  members = c.requires.among.members;
  pending = below_popped (length c.args.targets.now) c.in-Some.b c.pop.new.self.items c.args.self.now.pending.items c.in-Some.ensures.items c.requires.among.pending;
}
