use Rattle.std.proofs.Common.{arith}
use Rattle.std.proofs.lemmas.Result.{on_ok_weaker}
use Rattle.wac_types_shapes.specs.shapes.Kinds.{kind_type}
use Rattle.wac_encode_faults.specs.Free.{IsFree}
use Rattle.wac_encode_faults.specs.private.Owners.{IsTarget, KindUses, AdditionalUses, IsFreeInAddition}
use Rattle.wac_encode_faults.proofs.ItemSteps.{steps_low, steps_high}
use Rattle.wac_encode_faults.proofs.cycle.add_steps_of_import.Goals as goal

pub returns-then-number-own : goal.returns-then-number-own
returns-then-number-own c =
    let test = c.if-number-own.true in
    on_ok_weaker c.add_steps_of_item.result
    (λ steps. steps_low c.args.number c.args.own (IsTarget (KindUses c.args.types.now c.args.item) (IsFree c.args.types.now (kind_type c.args.item)) c.args.suppliers.now.entries c.args.owners.now.entries)
    (IsTarget (AdditionalUses c.args.types.now c.args.item) (IsFreeInAddition c.args.types.now c.args.item) c.args.suppliers.now.entries c.args.owners.now.entries) c.args.targets.now c.add_steps_of_item.new.targets (omega (arith, test)) steps)
    c.add_steps_of_item.ensures

pub returns : goal.returns
returns c =
    let test = c.if-number-own.false in
    on_ok_weaker c.add_steps_of_additional.result
    (λ steps. steps_high c.args.number c.args.own (IsTarget (KindUses c.args.types.now c.args.item) (IsFree c.args.types.now (kind_type c.args.item)) c.args.suppliers.now.entries c.args.owners.now.entries)
    (IsTarget (AdditionalUses c.args.types.now c.args.item) (IsFreeInAddition c.args.types.now c.args.item) c.args.suppliers.now.entries c.args.owners.now.entries) c.args.targets.now c.add_steps_of_additional.new.targets (omega (arith, test)) steps)
    c.add_steps_of_additional.ensures
