use Rattle.std.proofs.Common.{◌++◌, ◌+◌, ◌-◌, ◌*◌, ◌<◌, suc, arith, reverse, subst, ap, sym, ◌∙◌, length}
use Rattle.wac_encode_faults.specs.private.Order.{steps_into}
use Rattle.wac_types_collection.proofs.lemmas.wide.Once.{few}
use Rattle.wac_encode_faults.proofs.Ordering.{IsOrdering, most_listed, first_order, popped_there, stepped, stepped_less, order_done, no_steps}
use Rattle.wac_encode_faults.proofs.order.interfaces_inside.Goals as goal

pub loop-step-init : goal.loop-step-init
loop-step-init c =
    let all = c.in_ok-push_all.ensures ∙ ap (λ l. l ++ steps_into c.args.roots.now.keys) c.new-pending.ensures.items in
    record {
      order = subst (λ l. IsOrdering c.args.types.now c.args.roots.now.keys c.new-done.result.keys c.new-seen.result.keys (reverse l)) (sym all)
          (first_order c.args.types.now c.new-done.result.keys c.new-seen.result.keys c.args.roots.now.keys c.new-done.ensures.empty c.new-seen.ensures.empty c.requires);
      unique = c.new-seen.ensures.unique;
    }

pub take_step-requires-clause-there : goal.take_step-requires-clause-there
take_step-requires-clause-there c =
    popped_there c.args.types.now c.law.ensures c.args.roots.now.keys c.loop-step.done.keys c.loop-step.seen.keys c.loop-step.done.keys c.loop-step.seen.keys c.pop.new.self.items c.pop.new.self.items c.in-Some.step
    (subst (λ l. IsOrdering c.args.types.now c.args.roots.now.keys c.loop-step.done.keys c.loop-step.seen.keys (reverse l)) c.in-Some.ensures.items c.loop-step.invariant.order)

pub loop-step-preserved : goal.loop-step-preserved
loop-step-preserved c = record {
  order = stepped c.args.types.now c.law.ensures c.args.roots.now.keys c.loop-step.done.keys c.loop-step.seen.keys c.take_step.new.done.keys c.take_step.new.seen.keys c.pop.new.self.items c.take_step.new.pending.items c.in-Some.step
      (subst (λ l. IsOrdering c.args.types.now c.args.roots.now.keys c.loop-step.done.keys c.loop-step.seen.keys (reverse l)) c.in-Some.ensures.items c.loop-step.invariant.order) c.in_ok-take_step.ensures.takes;
  unique = c.in_ok-take_step.ensures.unique;
}

pub loop-step-smaller : goal.loop-step-smaller
loop-step-smaller c =
    let types = c.args.types.now in
    let after = stepped types c.law.ensures c.args.roots.now.keys c.loop-step.done.keys c.loop-step.seen.keys c.take_step.new.done.keys c.take_step.new.seen.keys c.pop.new.self.items c.take_step.new.pending.items c.in-Some.step
    (subst (λ l. IsOrdering types c.args.roots.now.keys c.loop-step.done.keys c.loop-step.seen.keys (reverse l)) c.in-Some.ensures.items c.loop-step.invariant.order) c.in_ok-take_step.ensures.takes in
    subst (λ l. (length types.interfaces - length c.take_step.new.seen.keys) * suc (most_listed types.interfaces) + length c.take_step.new.pending.items < (length types.interfaces - length c.loop-step.seen.keys) * suc (most_listed types.interfaces) + length l) (sym c.in-Some.ensures.items)
    (stepped_less types c.law.ensures c.args.roots.now.keys c.loop-step.done.keys c.loop-step.seen.keys c.take_step.new.done.keys c.take_step.new.seen.keys c.pop.new.self.items c.take_step.new.pending.items c.in-Some.step c.in_ok-take_step.ensures.takes
    (few (length types.interfaces) c.take_step.new.seen.keys c.in_ok-take_step.ensures.unique after.seen_there))

pub returns : goal.returns
returns c =
    let none = no_steps c.loop-step.pending.items (omega (arith, c.loop-step.pending.ok.0, c.in_default.ensures.cases.0)) in
    let last = subst (λ l. IsOrdering c.args.types.now c.args.roots.now.keys c.loop-step.done.keys c.loop-step.seen.keys (reverse l)) none c.loop-step.invariant.order in
    record { sorted = last.sorted; there = last.done_there; roots = order_done c.args.types.now c.args.roots.now.keys c.loop-step.done.keys c.loop-step.seen.keys last }
