use Rattle.std.proofs.Common.{◌-◌, length}
use Rattle.wac_types_collection.proofs.lemmas.reach.Universe.{types_of}
use Rattle.wac_encode_order.proofs.Searching.{IsSearched}
use Rattle.wac_encode_order.proofs.search.search.Given as goal

abbrev pub invariant-loop-next : goal.invariant-loop-next
invariant-loop-next l = IsSearched l.fn.types l.fn.items l.found.keys l.next

abbrev pub decreases-loop-next : goal.decreases-loop-next
decreases-loop-next l = length (types_of l.fn.types) - l.next
