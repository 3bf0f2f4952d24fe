use Rattle.wac_encode_faults.proofs.FreeSets.{AreTaken}
use Rattle.wac_encode_faults.proofs.free.add_children.Given as goal

abbrev pub invariant-loop-i : goal.invariant-loop-i
invariant-loop-i l = AreTaken l.fn.roots.keys l.fn.last.entries l.fn.children.keys l.fn.position l.i l.initial.sets.entries l.sets.entries l.initial.found.keys l.found.keys
