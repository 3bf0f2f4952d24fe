use Rattle.std.proofs.Common.{subst}
use Rattle.std.specs.Prelude.{IfOk}
use Rattle.wac_encode_faults.specs.Faults.{IsLowest, IsSidesFault}
use Rattle.wac_encode_faults.specs.Sides.{id_or_empty}
use Rattle.wac_encode_faults.proofs.Completed.{none_held, instance_held, interface_same}
use Rattle.wac_encode_faults.proofs.definitions.find_interface_fault.Goals as goal

pub find_sides_fault-requires-clause-imports : goal.find_sides_fault-requires-clause-imports
find_sides_fault-requires-clause-imports c = none_held c.args.types.now c.new-imports.result c.new-imports.ensures

pub find_sides_fault-requires-clause-additional : goal.find_sides_fault-requires-clause-additional
find_sides_fault-requires-clause-additional c = c.in_ok-additional.ensures.there

pub find_sides_fault-requires-clause-exports : goal.find_sides_fault-requires-clause-exports
find_sides_fault-requires-clause-exports c = instance_held c.args.types.now c.args.id (id_or_empty c.args.types.now c.args.id) c.in_ok-exports.exports c.requires c.in_ok-exports.ensures

pub returns : goal.returns
returns c =
    let same = interface_same c.args.types.now c.args.id c.new-uses.result c.new-imports.result c.in_ok-exports.exports c.in_ok-additional.additional.keys c.new-uses.ensures c.new-imports.ensures c.in_ok-additional.ensures.interfaces c.in_ok-exports.ensures in
    subst (λ s. IfOk c.find_sides_fault.result (IsLowest (IsSidesFault c.args.types.now s))) same c.find_sides_fault.ensures
