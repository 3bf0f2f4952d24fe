use Rattle.std.proofs.Common.{◌≡◌, true, length, subst}
use Rattle.std.proofs.lemmas.Result.{IfOk-weaker}
use Rattle.wac_types_collection.specs.collection.Collection.{holds_type}
use Rattle.wac_types_collection.proofs.lemmas.collection.Steady.{within}
use Rattle.wac_encode_faults.specs.Sides.{interface_sides, completed_sides}
use Rattle.wac_encode_faults.proofs.RootFaults.{defined_as, defined_plain, interface_defined, world_defined}
use Rattle.wac_encode_faults.proofs.root.find_defined_fault.Goals as goal

pub find_interface_fault-requires : goal.find_interface_fault-requires
find_interface_fault-requires c = within c.in-Interface.id.0 (length c.args.types.now.interfaces) (subst (λ t. holds_type c.args.types.now t ≡ true) c.in-Interface.is c.requires)

pub find_completed_fault-requires : goal.find_completed_fault-requires
find_completed_fault-requires c = subst (λ t. holds_type c.args.types.now t ≡ true) c.in-World.is c.requires

pub returns-in-Interface : goal.returns-in-Interface
returns-in-Interface c =
    IfOk-weaker c.find_interface_fault.result _ _
    (λ o low root same. defined_as c.args.types.now root c.args.ty (interface_sides c.args.types.now c.in-Interface.id) o (interface_defined c.args.types.now c.args.ty c.in-Interface.id c.in-Interface.is) low) c.find_interface_fault.ensures

pub returns-in-World : goal.returns-in-World
returns-in-World c =
    IfOk-weaker c.find_completed_fault.result _ _
    (λ o low root same. defined_as c.args.types.now root c.args.ty (completed_sides c.args.types.now low.0) o (world_defined c.args.types.now c.args.ty c.in-World.id low.0 c.in-World.is low.1) low.2) c.find_completed_fault.ensures

pub returns-in_default : goal.returns-in_default
returns-in_default c =
    IfOk-weaker c.find_unbound.result _ _ (λ o low root same. defined_plain c.args.types.now root c.args.ty o c.in_default.not-Interface c.in_default.not-World (low root same)) c.find_unbound.ensures
