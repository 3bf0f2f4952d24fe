use Rattle.std.proofs.Common.{ℕ, ◌≡◌, ◌∙◌, length, refl}
use Rattle.wac_encode_interfaces.proofs.Positions.{moved-next, moved-end}
use Rattle.wac_encode_interfaces.proofs.ordered_sides.add_all_moved.Goals as goal

pub loop-to-preserved : goal.loop-to-preserved
loop-to-preserved c = record {
  counted = c.add_moved.auto.targets ∙ c.loop-to.invariant.counted;
  moved = moved-next c.args.from c.args.first (length c.args.targets.now) c.in-Some.to.now c.args.steps.now.keys c.loop-to.to-iterator c.next.new.self c.args.targets.now c.loop-to.targets c.add_moved.new.targets c.in-Some.ensures.steps c.loop-to.invariant.counted c.in_ok-add_moved.ensures c.loop-to.invariant.moved;
}

pub returns : goal.returns
returns c = moved-end c.args.from c.args.first (length c.args.targets.now) c.args.steps.now c.loop-to.to-iterator c.args.targets.now c.loop-to.targets c.in-None.ensures.steps.0 refl c.loop-to.invariant.moved
