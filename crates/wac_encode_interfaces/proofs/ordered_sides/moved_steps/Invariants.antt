use Rattle.std.proofs.Common.{◌≡◌, length}
use Rattle.wac_encode_interfaces.proofs.Positions.{MovedBelow}
use Rattle.wac_encode_interfaces.proofs.ordered_sides.moved_steps.Given as goal

abbrev pub invariant-loop-from : goal.invariant-loop-from
invariant-loop-from l = record {
  counted : length l.moved.items ≡ l.fn.count;
  below : MovedBelow l.fn.first l.fn.count l.from l.fn.steps l.moved.items;
}
