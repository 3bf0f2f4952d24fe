use Rattle.std.proofs.Common.{List, drop, ◌++◌, IfSome}
use Rattle.wac_graph.specs.private.plugs.Tracks.{AreFirsts}
use Rattle.wac_graph.specs.plugs.Matching.{Match, AreMatches}
use Rattle.wac_graph.specs.private.plugs.Pairs.{matches_at, AreWithin}
use Rattle.wac_graph.proofs.plugs.matching.find_matches.Given as goal

abbrev pub invariant-loop-i : goal.invariant-loop-i
invariant-loop-i l = record {
  firsts : IfSome l.firsts (AreFirsts l.imports);
  matched : (ms : List Match) → AreMatches l.types l.imports (drop l.i l.exports) ms → AreMatches l.types l.imports l.exports (matches_at l.exports l.imports l.pairs.items ++ ms);
  within : AreWithin l.exports l.imports l.pairs.items;
}
