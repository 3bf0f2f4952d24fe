use Rattle.std.proofs.Common.{◌≡◌, ◌++◌, ◌-◌, ◌≤◌, ℕ, length, drop, subst, arith}
use Rattle.wac_types_collection.specs.wide.Wide.{instances_of}
use Rattle.wac_graph_fields.specs.private.EntriesLeft.{visits}
use Rattle.wac_graph_fields.proofs.AskingLoops.{visited_more, none_visited}
use Rattle.wac_graph_fields.proofs.asked.visit_instances.Goals as goal

pub loop-left-init : goal.loop-left-init
loop-left-init c = record { within = omega (arith, c.len-left.ensures); pushed = none_visited c.args.items.now c.len-left.result c.args.tasks.now.items c.len-left.ensures }

pub loop-left-preserved : goal.loop-left-preserved
loop-left-preserved c =
    let within : c.loop-left.left ≤ length c.args.items.now = c.loop-left.invariant.within in
    record {
      within = omega (arith, within);
      pushed = visited_more c.args.items.now c.loop-left.left (c.loop-left.left - 1) c.value_at.result.now c.args.tasks.now.items c.loop-left.tasks.items c.visit_item.new.tasks.items (omega (arith, c.loop-left-test.true)) c.value_at.ensures c.loop-left.invariant.pushed c.in_ok-visit_item.ensures;
    }

pub returns : goal.returns
returns c =
    subst (λ (i : ℕ). c.loop-left.tasks.items ≡ c.args.tasks.now.items ++ visits (instances_of (drop i c.args.items.now))) (let none : c.loop-left.left ≡ 0 = omega (arith, c.loop-left-test.false) in none) c.loop-left.invariant.pushed
