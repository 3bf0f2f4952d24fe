use Rattle.std.proofs.Common.{◌++◌, ◌<◌, arith, reverse, subst, ap, sym, ◌∙◌, flat_map, inl}
use Rattle.wac_encode_interfaces.specs.private.InnerTypes.{interface_or_world, enter_all}
use Rattle.wac_encode_interfaces.proofs.InnerTypes.{IsWalk, total, first-walk, popped-held, stepped, stepped-less, all-done, no-steps}
use Rattle.wac_encode_interfaces.proofs.Heavy.{WeighSteps, begun-light, step-light}
use Rattle.wac_encode_interfaces.proofs.inside.types_inside.Goals as goal

pub loop-step-init : goal.loop-step-init
loop-step-init c = record {
  walk =
      let all = c.in_ok-push_types.ensures ∙ ap (λ l. l ++ enter_all (flat_map interface_or_world c.args.roots.now)) c.new-pending.ensures.items in
      subst (λ l. IsWalk c.args.types.now (flat_map interface_or_world c.args.roots.now) c.new-done.result.keys (reverse l)) (sym all) (first-walk c.args.types.now c.new-done.result.keys c.args.roots.now c.new-done.ensures.empty c.requires);
  light =
      begun-light c.args.types.now c.args.roots.now c.new-done.result.keys c.push_types.new.pending.items c.new-done.ensures.empty (c.in_ok-push_types.ensures ∙ ap (λ l. l ++ enter_all (flat_map interface_or_world c.args.roots.now)) c.new-pending.ensures.items);
}

pub take_step-requires : goal.take_step-requires
take_step-requires c =
    popped-held c.args.types.now c.law.ensures (flat_map interface_or_world c.args.roots.now) c.loop-step.done.keys c.loop-step.done.keys c.pop.new.self.items c.pop.new.self.items c.in-Some.step
    (subst (λ l. IsWalk c.args.types.now (flat_map interface_or_world c.args.roots.now) c.loop-step.done.keys (reverse l)) c.in-Some.ensures.items c.loop-step.invariant.walk)

pub loop-step-preserved : goal.loop-step-preserved
loop-step-preserved c = record {
  walk =
      stepped c.args.types.now c.law.ensures (flat_map interface_or_world c.args.roots.now) c.loop-step.done.keys c.take_step.new.done.keys c.pop.new.self.items c.take_step.new.pending.items c.in-Some.step
      (subst (λ l. IsWalk c.args.types.now (flat_map interface_or_world c.args.roots.now) c.loop-step.done.keys (reverse l)) c.in-Some.ensures.items c.loop-step.invariant.walk) c.in_ok-take_step.ensures;
  light =
      step-light c.weight_law.ensures.nests_less c.args.types.now c.law.ensures c.args.roots.now c.loop-step.done.keys c.take_step.new.done.keys c.pop.new.self.items c.take_step.new.pending.items c.in-Some.step
      (popped-held c.args.types.now c.law.ensures (flat_map interface_or_world c.args.roots.now) c.loop-step.done.keys c.loop-step.done.keys c.pop.new.self.items c.pop.new.self.items c.in-Some.step
      (subst (λ l. IsWalk c.args.types.now (flat_map interface_or_world c.args.roots.now) c.loop-step.done.keys (reverse l)) c.in-Some.ensures.items c.loop-step.invariant.walk))
      (subst (λ l. WeighSteps c.args.types.now c.args.roots.now c.loop-step.done.keys l) c.in-Some.ensures.items c.loop-step.invariant.light) c.in_ok-take_step.ensures;
}

pub loop-step-smaller : goal.loop-step-smaller
loop-step-smaller c =
    subst (λ l. total c.args.types.now c.take_step.new.pending.items < total c.args.types.now l) (sym c.in-Some.ensures.items)
    (stepped-less c.args.types.now c.law.ensures (flat_map interface_or_world c.args.roots.now) c.loop-step.done.keys c.take_step.new.done.keys c.pop.new.self.items c.take_step.new.pending.items c.in-Some.step c.in_ok-take_step.ensures)

pub returns : goal.returns
returns c =
    let none = no-steps c.loop-step.pending.items (omega (arith, c.loop-step.pending.ok.0, c.in_default.ensures.cases.0)) in
    let last = subst (λ l. IsWalk c.args.types.now (flat_map interface_or_world c.args.roots.now) c.loop-step.done.keys (reverse l)) none c.loop-step.invariant.walk in
    record {
      sorted = last.sorted;
      clean = λ t h. last.clean t (inl h);
      roots = all-done c.args.types.now (flat_map interface_or_world c.args.roots.now) c.loop-step.done.keys last;
      light = c.loop-step.invariant.light.done_light;
    }
