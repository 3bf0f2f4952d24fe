use Rattle.wac_encode_faults.specs.private.Sets.{AreLast}
use Rattle.wac_encode_faults.proofs.readers.last_readers.Given as goal

abbrev pub invariant-loop-position : goal.invariant-loop-position
invariant-loop-position l = AreLast l.fn.types l.fn.order.keys l.position l.last.entries
