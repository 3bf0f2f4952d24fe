use Rattle.std.proofs.Common.{◌≡◌, ◌+◌, arith}
use Rattle.wac_encode_faults.proofs.Steps.{below_first}
use Rattle.wac_encode_faults.proofs.ItemSteps.{ImportNeeds, HasItem, items_next, imports_all}
use Rattle.wac_encode_faults.proofs.cycle.add_steps_of_imports.Goals as goal

pub loop-number-init : goal.loop-number-init
loop-number-init c = below_first 0 (HasItem (ImportNeeds c.args.types.now c.args.own c.args.suppliers.now.entries c.args.owners.now.entries) c.args.imports.now) c.args.targets.now

pub loop-number-preserved : goal.loop-number-preserved
loop-number-preserved c =
    let here : c.loop-number.number ≡ 0 + c.loop-number.number = omega arith in
    items_next (ImportNeeds c.args.types.now c.args.own c.args.suppliers.now.entries c.args.owners.now.entries) c.args.imports.now 0 c.loop-number.number c.loop-number.number c.value_at-item.result.now c.args.targets.now c.loop-number.targets c.add_steps_of_import.new.targets c.value_at-item.ensures here
    c.loop-number.invariant c.in_ok-add_steps_of_import.ensures

pub returns : goal.returns
returns c =
    let past = c.loop-number-test.false in
    let counted = c.len-number-end.ensures in
    imports_all c.args.types.now c.args.own c.args.imports.now c.args.suppliers.now.entries c.args.owners.now.entries c.loop-number.number c.args.targets.now c.loop-number.targets (omega (arith, past, counted)) c.loop-number.invariant
