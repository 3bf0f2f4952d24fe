use Rattle.std.proofs.Common.{◌≡◌, true, sym, subst}
use Rattle.wac_types_collection.specs.collection.Collection.{holds_type}
use Rattle.wac_encode_faults.specs.Faults.{IsLowest, IsTypeFault}
use Rattle.wac_encode_faults.proofs.NestedFaults.{lowest_of_world, lowest_of_other}
use Rattle.wac_encode_faults.proofs.nested.find_type_fault.Goals as goal

pub find_world_fault-requires : goal.find_world_fault-requires
find_world_fault-requires c = subst (λ t. holds_type c.args.types.now t ≡ true) c.in-World.is c.requires

pub returns-in_default : goal.returns-in_default
returns-in_default c = lowest_of_other c.args.types.now c.args.ty c.find_fault_at-listed.result c.in_default.not-World c.find_fault_at-listed.ensures

pub returns : goal.returns
returns c =
    subst (IsLowest (IsTypeFault c.args.types.now c.args.ty)) (sym c.lower.ensures)
    (lowest_of_world c.args.types.now c.args.ty c.in-World.id c.find_fault_at-listed.result c.in_ok-fault.fault c.in-World.is c.find_fault_at-listed.ensures c.in_ok-fault.ensures)
