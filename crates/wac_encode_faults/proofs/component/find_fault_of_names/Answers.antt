use Rattle.wac_encode_faults.proofs.ComponentFaults.{names_twice, names_once}
use Rattle.wac_encode_faults.proofs.WorldFaults.{not_true}
use Rattle.wac_encode_faults.proofs.component.find_fault_of_names.Goals as goal

pub returns-then-branch : goal.returns-then-branch
returns-then-branch c = names_twice c.args.types.now c.args.uses.now c.args.imports.now c.args.additional.now.keys c.args.exports.now (c.in_ok-has_name_twice.ensures.0 c.if-branch.true)

pub returns : goal.returns
returns c =
    names_once c.args.types.now c.args.uses.now c.args.imports.now c.args.additional.now.keys c.args.exports.now (not_true _ _ c.if-branch.false c.in_ok-has_name_twice.ensures) c.in_ok-has_cycle.has_cycle c.fault_if.result c.in_ok-has_cycle.ensures
    c.fault_if.ensures
