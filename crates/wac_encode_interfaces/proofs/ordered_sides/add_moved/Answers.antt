use Rattle.std.proofs.Common.{ℕ, ◌≡◌, ◌+◌, ◌-◌, arith}
use Rattle.wac_encode_interfaces.proofs.Written.{on-ok}
use Rattle.wac_encode_interfaces.proofs.Positions.{moved-one}
use Rattle.wac_encode_interfaces.proofs.ordered_sides.add_moved.Goals as goal

pub returns : goal.returns
returns c =
    let before = c.if-is_before.false in
    let past = c.if-is_past.false in
    on-ok c.add_step.result
    (λ adds. moved-one c.args.from c.args.first c.args.to (c.args.to - c.args.first) c.args.targets.now c.add_step.new.targets (grind (arith, before)) (grind (arith, past)) adds)
    c.add_step.ensures
