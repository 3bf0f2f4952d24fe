use Rattle.std.proofs.Common.{arith, ◌-◌, suc, ◌≡◌}
use Rattle.wac_types_collection.proofs.lemmas.wide.WideWalk.{pushed_first, pushed_next, pushed_all}
use Rattle.wac_types_collection.proofs.wide.push_instances.Goals as goal

pub loop-left-init : goal.loop-left-init
loop-left-init c = record { in_range = let l = c.len-left.ensures in omega (arith, l); pushed = pushed_first c.args.items.now c.len-left.result c.args.pending.now.items c.len-left.ensures }

pub loop-left-preserved : goal.loop-left-preserved
loop-left-preserved c =
    let some = c.loop-left-test.true in
    let next : suc (c.loop-left.left - 1) ≡ c.loop-left.left = omega (arith, some) in
    record {
      in_range = let l = c.loop-left.invariant.in_range in omega (arith, l);
      pushed = pushed_next c.args.items.now c.loop-left.left (c.loop-left.left - 1) c.value_at.result.now c.args.pending.now.items c.loop-left.pending.items c.push_instance.new.pending.items next c.value_at.ensures
          c.loop-left.invariant.pushed c.in_ok-push_instance.ensures;
    }

pub returns : goal.returns
returns c = pushed_all c.args.items.now c.loop-left.left c.args.pending.now.items c.loop-left.pending.items (let none = c.loop-left-test.false in omega (arith, none)) c.loop-left.invariant.pushed
