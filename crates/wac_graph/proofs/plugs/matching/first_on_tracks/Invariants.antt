use Rattle.std.proofs.Common.{take}
use Rattle.wac_graph.specs.private.plugs.Tracks.{AreFirsts}
use Rattle.wac_graph.proofs.plugs.matching.first_on_tracks.Given as goal

abbrev pub invariant-loop-i : goal.invariant-loop-i
invariant-loop-i l = AreFirsts (take l.i l.imports) l.firsts
