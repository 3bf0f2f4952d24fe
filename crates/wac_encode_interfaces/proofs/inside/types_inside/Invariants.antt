use Rattle.std.proofs.Common.{reverse, flat_map}
use Rattle.wac_encode_interfaces.specs.private.InnerTypes.{interface_or_world}
use Rattle.wac_encode_interfaces.proofs.Heavy.{WeighSteps}
use Rattle.wac_encode_interfaces.proofs.InnerTypes.{IsWalk, total}
use Rattle.wac_encode_interfaces.proofs.inside.types_inside.Given as goal

abbrev pub invariant-loop-step : goal.invariant-loop-step
invariant-loop-step l = record {
  walk : IsWalk l.fn.types (flat_map interface_or_world l.fn.roots) l.done.keys (reverse l.pending.items);
  light : WeighSteps l.fn.types l.fn.roots l.done.keys l.pending.items;
}

abbrev pub decreases-loop-step : goal.decreases-loop-step
decreases-loop-step l = total l.fn.types l.pending.items
