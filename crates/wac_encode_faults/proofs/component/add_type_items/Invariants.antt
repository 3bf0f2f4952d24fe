use Rattle.wac_encode_faults.proofs.ComponentFaults.{AreTypesAdded}
use Rattle.wac_encode_faults.proofs.component.add_type_items.Given as goal

abbrev pub invariant-loop-i : goal.invariant-loop-i
invariant-loop-i l = AreTypesAdded l.fn.items l.i l.initial.found.keys l.found.keys
