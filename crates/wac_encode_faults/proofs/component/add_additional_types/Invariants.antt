use Rattle.wac_encode_faults.proofs.ComponentFaults.{AreTypesUnder}
use Rattle.wac_encode_faults.proofs.component.add_additional_types.Given as goal

abbrev pub invariant-loop-i : goal.invariant-loop-i
invariant-loop-i l = AreTypesUnder l.fn.types l.fn.additional.keys l.i l.initial.found.keys l.found.keys
