use Rattle.std.proofs.Common.{◌≡◌, length}
use Rattle.wac_encode_interfaces.proofs.Positions.{MovedSoFar}
use Rattle.wac_encode_interfaces.proofs.ordered_sides.add_all_moved.Given as goal

abbrev pub invariant-loop-to : goal.invariant-loop-to
invariant-loop-to l = record {
  counted : length l.targets ≡ length l.initial.targets;
  moved : MovedSoFar l.fn.from l.fn.first (length l.initial.targets) l.fn.steps.keys l.to-iterator l.initial.targets l.targets;
}
