use Rattle.std.proofs.Common.{◌++◌, ◌<◌, arith, reverse, subst, ap, sym, ◌∙◌}
use Rattle.wac_encode_faults.specs.private.Order.{steps_into}
use Rattle.wac_encode_faults.proofs.Ordering.{no_steps}
use Rattle.wac_encode_faults.proofs.UseWalk.{IsUseWalk, weigh, first_walk, popped_there, stepped, stepped_less}
use Rattle.wac_encode_faults.proofs.uses.reach_uses.Goals as goal

pub loop-step-init : goal.loop-step-init
loop-step-init c =
    let all = c.in_ok-push_roots.ensures ∙ ap (λ l. l ++ reverse (steps_into c.args.roots.now.keys)) c.new-pending.ensures.items in
    subst (λ l. IsUseWalk c.args.types.now c.args.roots.now.keys c.new-done.result.keys (reverse l)) (sym all) (first_walk c.args.types.now c.args.roots.now.keys c.new-done.result.keys c.new-done.ensures.empty c.requires)

pub take_step-requires : goal.take_step-requires
take_step-requires c =
    popped_there c.args.types.now c.law.ensures c.args.roots.now.keys c.loop-step.done.keys c.loop-step.done.keys c.pop.new.self.items c.pop.new.self.items c.in-Some.step
    (subst (λ l. IsUseWalk c.args.types.now c.args.roots.now.keys c.loop-step.done.keys (reverse l)) c.in-Some.ensures.items c.loop-step.invariant)

pub loop-step-preserved : goal.loop-step-preserved
loop-step-preserved c =
    stepped c.args.types.now c.law.ensures c.args.roots.now.keys c.loop-step.done.keys c.take_step.new.done.keys c.pop.new.self.items c.take_step.new.pending.items c.in-Some.step
    (subst (λ l. IsUseWalk c.args.types.now c.args.roots.now.keys c.loop-step.done.keys (reverse l)) c.in-Some.ensures.items c.loop-step.invariant) c.in_ok-take_step.ensures

pub loop-step-smaller : goal.loop-step-smaller
loop-step-smaller c =
    subst (λ l. weigh c.args.types.now (reverse c.take_step.new.pending.items) < weigh c.args.types.now (reverse l)) (sym c.in-Some.ensures.items)
    (stepped_less c.args.types.now c.law.ensures c.args.roots.now.keys c.loop-step.done.keys c.take_step.new.done.keys c.pop.new.self.items c.take_step.new.pending.items c.in-Some.step
    (subst (λ l. IsUseWalk c.args.types.now c.args.roots.now.keys c.loop-step.done.keys (reverse l)) c.in-Some.ensures.items c.loop-step.invariant) c.in_ok-take_step.ensures)

pub returns : goal.returns
returns c =
    let none = no_steps c.loop-step.pending.items (omega (arith, c.loop-step.pending.ok.0, c.in_default.ensures.cases.0)) in
    (subst (λ l. IsUseWalk c.args.types.now c.args.roots.now.keys c.loop-step.done.keys (reverse l)) none c.loop-step.invariant).order
