use Rattle.std.proofs.Common.{◌≡◌, ◌+◌, ◌-◌, subst, arith}
use Rattle.wac_encode_faults.proofs.Steps.{AddsStepsBelow, below_first}
use Rattle.wac_encode_faults.proofs.ItemSteps.{ItemNeeds, HasItem, value_held, items_next, items_all}
use Rattle.wac_encode_faults.proofs.cycle.add_steps_of_items.Goals as goal

pub loop-number-init : goal.loop-number-init
loop-number-init c =
    let none : 0 ≡ c.args.first - c.args.first = omega arith in
    record {
      low = omega arith;
      added = subst (λ n. AddsStepsBelow c.args.first n (HasItem (ItemNeeds c.args.types.now c.args.suppliers.now.entries c.args.owners.now.entries) c.args.items.now) c.args.targets.now c.args.targets.now) none (below_first c.args.first (HasItem (ItemNeeds c.args.types.now c.args.suppliers.now.entries c.args.owners.now.entries) c.args.items.now) c.args.targets.now);
    }

pub add_steps_of_item-requires-clause-held : goal.add_steps_of_item-requires-clause-held
add_steps_of_item-requires-clause-held c = value_held c.args.types.now c.args.items.now (c.loop-number.number - c.args.first) c.value_at-item.result.now c.requires.held c.value_at-item.ensures

pub loop-number-preserved : goal.loop-number-preserved
loop-number-preserved c =
    let low = c.loop-number.invariant.low in
    let here : c.loop-number.number ≡ c.args.first + (c.loop-number.number - c.args.first) = omega (arith, low) in
    let next : (c.loop-number.number - c.args.first) + 1 ≡ (c.loop-number.number + 1) - c.args.first = omega (arith, low) in
    record {
      low = omega (arith, low);
      added = subst (λ n. AddsStepsBelow c.args.first n (HasItem (ItemNeeds c.args.types.now c.args.suppliers.now.entries c.args.owners.now.entries) c.args.items.now) c.args.targets.now c.add_steps_of_item.new.targets) next
          (items_next (ItemNeeds c.args.types.now c.args.suppliers.now.entries c.args.owners.now.entries) c.args.items.now c.args.first (c.loop-number.number - c.args.first) c.loop-number.number c.value_at-item.result.now c.args.targets.now c.loop-number.targets c.add_steps_of_item.new.targets c.value_at-item.ensures here
          c.loop-number.invariant.added c.in_ok-add_steps_of_item.ensures);
    }

pub returns : goal.returns
returns c =
    let past = c.loop-number-test.false in
    let end = c.requires.end in
    items_all (ItemNeeds c.args.types.now c.args.suppliers.now.entries c.args.owners.now.entries) c.args.items.now c.args.first (c.loop-number.number - c.args.first) c.args.targets.now c.loop-number.targets
    (omega (arith, past, end)) c.loop-number.invariant.added
