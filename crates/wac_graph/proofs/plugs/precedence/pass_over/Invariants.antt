use Rattle.std.proofs.Common.{◌++◌, map}
use Rattle.wac_graph.specs.plugs.Precedence.{each_of, named_by}
use Rattle.wac_graph.specs.private.plugs.Pairs.{matches_at}
use Rattle.wac_graph.proofs.lemmas.plugs.Dividing.{HasPassed}
use Rattle.wac_graph.proofs.plugs.precedence.pass_over.Given as goal

abbrev pub invariant-loop-i : goal.invariant-loop-i
invariant-loop-i l = HasPassed l.exports l.imports l.plug l.pairs l.i l.passed.items (map named_by l.fn.passed.items ++ each_of l.plug (matches_at l.exports l.imports l.pairs))
