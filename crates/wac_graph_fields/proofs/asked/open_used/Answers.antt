use Rattle.std.proofs.Common.{◌≡◌, ◌++◌, ◌-◌, ◌≤◌, ℕ, length, drop, subst, arith}
use Rattle.wac_graph_fields.specs.private.EntriesLeft.{openings}
use Rattle.wac_graph_fields.proofs.AskingLoops.{opened_more, none_opened}
use Rattle.wac_graph_fields.proofs.asked.open_used.Goals as goal

pub loop-i-init : goal.loop-i-init
loop-i-init c = record { within = omega (arith, c.len-i.ensures); opened = none_opened c.args.uses.now c.len-i.result c.args.tasks.now.items c.len-i.ensures }

pub loop-i-preserved : goal.loop-i-preserved
loop-i-preserved c =
    let within : c.loop-i.i ≤ length c.args.uses.now = c.loop-i.invariant.within in
    record {
      within = omega (arith, within);
      opened = opened_more c.args.uses.now c.loop-i.i (c.loop-i.i - 1) c.value_at.result.now c.args.tasks.now.items c.loop-i.tasks.items c.push.new.self.items (omega (arith, c.loop-i-test.true)) c.value_at.ensures c.loop-i.invariant.opened c.in_ok-push.ensures.items;
    }

pub returns : goal.returns
returns c = subst (λ (i : ℕ). c.loop-i.tasks.items ≡ c.args.tasks.now.items ++ openings (drop i c.args.uses.now)) (let none : c.loop-i.i ≡ 0 = omega (arith, c.loop-i-test.false) in none) c.loop-i.invariant.opened
