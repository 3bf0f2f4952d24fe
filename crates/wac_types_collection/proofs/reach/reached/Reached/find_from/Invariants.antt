use Rattle.std.proofs.Common.{◌-◌, length}
use Rattle.wac_types_collection.proofs.lemmas.reach.Universe.{types_of}
use Rattle.wac_types_collection.proofs.lemmas.reach.Reaching.{AreFound}
use Rattle.wac_types_collection.proofs.reach.reached.Reached.find_from.Given as goal

abbrev pub invariant-loop-next : goal.invariant-loop-next
invariant-loop-next l = AreFound l.fn.types l.fn.self l.fn.ty l.self l.next

abbrev pub decreases-loop-next : goal.decreases-loop-next
decreases-loop-next l = length (types_of l.fn.types) - l.next
