use Rattle.std.proofs.Common.{◌≡◌, length, ap, ◌∙◌, arith}
use Rattle.std.proofs.lemmas.List.{with_items_is}
use Rattle.wac_types_tests.proofs.types.edges.lowest.Goals as goal

pub loop-step-init : goal.loop-step-init
loop-step-init c = λ a b h. absurd (c.in_ok-targets.ensures.empty a b h)

pub add-requires : goal.add-requires
add-requires c = rw c.deref_mut.ensures.value c.loop-step.invariant

pub loop-step-preserved : goal.loop-step-preserved
loop-step-preserved c =
    let long : length c.add.new.targets ≡ length c.loop-step.targets.items = c.add.auto.targets ∙ ap length c.deref_mut.ensures.value in
    let same = with_items_is c.loop-step.targets c.add.new.targets (omega (arith, long, c.loop-step.targets.ok.0)) in
    rw same c.in_ok-add.ensures

pub lowest_on_cycle-requires : goal.lowest_on_cycle-requires
lowest_on_cycle-requires c = rw c.as_slice.ensures.value c.loop-step.invariant
