use Rattle.std.proofs.Common.{◌+◌, ◌-◌, ◌*◌, suc, length, reverse}
use Rattle.std.specs.List.{IsDistinct}
use Rattle.wac_types_shapes.specs.contracts.shapes.component.InterfaceIdPartialEq.TheImpl as IdEq
use Rattle.wac_encode_faults.proofs.Ordering.{IsOrdering, most_listed}
use Rattle.wac_encode_faults.proofs.order.interfaces_inside.Given as goal

abbrev pub invariant-loop-step : goal.invariant-loop-step
invariant-loop-step l = record {
  order : IsOrdering l.fn.types l.fn.roots.keys l.done.keys l.seen.keys (reverse l.pending.items);
  unique : IsDistinct (IdEq.ghosts).eq l.seen.keys;
}

abbrev pub decreases-loop-step : goal.decreases-loop-step
decreases-loop-step l = (length l.fn.types.interfaces - length l.seen.keys) * suc (most_listed l.fn.types.interfaces) + length l.pending.items
