use Rattle.std.proofs.Common.{◌-◌, length}
use Rattle.wac_types_collection.proofs.lemmas.reach.Universe.{types_of}
use Rattle.wac_encode_faults.proofs.Insides.{AreInside}
use Rattle.wac_encode_faults.proofs.inside.with_scopes_inside.Given as goal

abbrev pub invariant-loop-next : goal.invariant-loop-next
invariant-loop-next l = AreInside l.fn.types l.fn.roots.keys l.found.keys l.next

abbrev pub decreases-loop-next : goal.decreases-loop-next
decreases-loop-next l = length (types_of l.fn.types) - l.next
