use Rattle.std.proofs.Common.{length}
use Rattle.wac_edges.specs.private.cycles.RankSearch.{IsAmong}
use Rattle.wac_edges.proofs.cycles.ranks.ranks.Given as goal

abbrev pub invariant-loop : goal.invariant-loop
invariant-loop l = IsAmong (length l.targets) l.search
