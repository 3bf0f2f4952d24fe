use Rattle.std.proofs.Common.{◌≡◌, ◌++◌, ◌-◌, List, length}
use Rattle.wac_types_shapes.specs.declared.shapes.component.«Type».{«Type» as AnyType}
use Rattle.wac_types_collection.proofs.lemmas.reach.Universe.{types_of}
use Rattle.wac_encode_faults.proofs.Mentioned.{AreParts}
use Rattle.wac_encode_faults.proofs.parts.add_all_parts.Given as goal

abbrev pub invariant-loop-next : goal.invariant-loop-next
invariant-loop-next l = record {
  parts : AreParts l.fn.types l.initial.found.keys l.found.keys l.next;
  grown : (more : List AnyType) × (l.found.keys ≡ l.initial.found.keys ++ more);
}

abbrev pub decreases-loop-next : goal.decreases-loop-next
decreases-loop-next l = length (types_of l.fn.types) - l.next
