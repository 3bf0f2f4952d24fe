use Rattle.std.proofs.Common.{refl, subst}
use Rattle.std.proofs.lemmas.Result.{IfOk-weaker}
use Rattle.wac_encode_faults.specs.Faults.{IsLowest, IsSidesFault}
use Rattle.wac_encode_faults.specs.private.Binding.{sides_with}
use Rattle.wac_encode_faults.proofs.Dependencies.{imports_held, exports_held}
use Rattle.wac_encode_faults.proofs.Completed.{world_same}
use Rattle.wac_encode_faults.proofs.definitions.find_completed_fault.Goals as goal

pub find_sides_fault-requires-clause-imports : goal.find_sides_fault-requires-clause-imports
find_sides_fault-requires-clause-imports c = imports_held c.args.types.now c.law.ensures c.args.id c.requires c.index-world.result.now c.index-world.ensures

pub find_sides_fault-requires-clause-additional : goal.find_sides_fault-requires-clause-additional
find_sides_fault-requires-clause-additional c = c.in_ok-additional.ensures.there

pub find_sides_fault-requires-clause-exports : goal.find_sides_fault-requires-clause-exports
find_sides_fault-requires-clause-exports c = exports_held c.args.types.now c.law.ensures c.args.id c.requires c.index-world.result.now c.index-world.ensures

pub returns : goal.returns
returns c =
    let types = c.args.types.now in
    let world = c.index-world.result.now in
    let keys = c.in_ok-additional.additional.keys in
    IfOk-weaker c.find_sides_fault.result (IsLowest (IsSidesFault types (sides_with types world.uses world.imports keys world.exports))) _
    (λ o low. (world, c.index-world.ensures, subst (λ s. IsLowest (IsSidesFault types s) o) (world_same types world world keys refl (c.in_ok-additional.ensures.interfaces world c.index-world.ensures)) low)) c.find_sides_fault.ensures
