use Rattle.std.proofs.lemmas.Result.{IfOk-weaker}
use Rattle.wac_encode_faults.specs.Faults.{IsLowest, IsFaultInside}
use Rattle.wac_encode_faults.specs.private.Roots.{IsFaultInsideOne}
use Rattle.wac_encode_faults.proofs.NestedFaults.{root_held, root_inside}
use Rattle.wac_encode_faults.proofs.nested.find_fault_of_type.Goals as goal

pub find_fault_inside-requires : goal.find_fault_inside-requires
find_fault_inside-requires c = root_held c.args.types.now c.args.ty c.new-roots.result.keys c.add_type.new.found.keys c.new-roots.ensures.empty c.in_ok-add_type.ensures c.requires

pub returns : goal.returns
returns c =
    IfOk-weaker c.find_fault_inside.result (IsLowest (IsFaultInsideOne c.args.types.now c.add_type.new.found.keys)) (IsLowest (IsFaultInside c.args.types.now c.args.ty))
    (λ o low. root_inside c.args.types.now c.args.ty c.new-roots.result.keys c.add_type.new.found.keys c.new-roots.ensures.empty c.in_ok-add_type.ensures o low) c.find_fault_inside.ensures
