use Rattle.wac_graph.proofs.lemmas.plugs.Dividing.{HasDivided}
use Rattle.wac_graph.proofs.plugs.precedence.divide.Given as goal

abbrev pub invariant-loop-i : goal.invariant-loop-i
invariant-loop-i l = HasDivided l.pairs l.fn.taken.items l.i l.won.items l.lost.items l.taken.items
