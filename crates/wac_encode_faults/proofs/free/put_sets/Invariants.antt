use Rattle.wac_encode_faults.specs.private.Sets.{AreSets}
use Rattle.wac_encode_faults.proofs.free.put_sets.Given as goal

abbrev pub invariant-loop-position : goal.invariant-loop-position
invariant-loop-position l = AreSets l.fn.types l.fn.roots.keys l.fn.order.keys l.position l.position l.sets.entries
