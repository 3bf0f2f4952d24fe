use Rattle.std.specs.Prelude.{◌≡◌, ◌++◌, drop}
use Rattle.wac_encode_order.specs.private.SideOrder.{lists_resource, positions_of}
use Rattle.wac_encode_order.specs.private.Merging.{merged}
use Rattle.wac_encode_order.proofs.side.with_resources.Given as goal

abbrev pub invariant-loop-i : goal.invariant-loop-i
invariant-loop-i l = l.order.items ++ merged (drop l.next l.numbers) (positions_of lists_resource l.i (drop l.i l.items)) ≡ merged l.numbers (positions_of lists_resource 0 l.items)
