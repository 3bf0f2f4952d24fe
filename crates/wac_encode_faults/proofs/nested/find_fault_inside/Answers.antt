use Rattle.std.proofs.lemmas.Result.{IfOk-weaker}
use Rattle.wac_encode_faults.specs.Faults.{IsLowest}
use Rattle.wac_encode_faults.specs.private.Roots.{IsFaultInsideOne, IsFaultOfOne}
use Rattle.wac_encode_faults.proofs.NestedFaults.{lowest_inside}
use Rattle.wac_encode_faults.proofs.nested.find_fault_inside.Goals as goal

pub returns : goal.returns
returns c =
    IfOk-weaker c.find_fault_of_types.result (IsLowest (IsFaultOfOne c.args.types.now c.in_ok-scopes.scopes.keys)) (IsLowest (IsFaultInsideOne c.args.types.now c.args.roots.keys))
    (λ o low. lowest_inside c.args.types.now c.args.roots.keys c.in_ok-scopes.scopes.keys o c.in_ok-scopes.ensures.inside c.in_ok-scopes.ensures.scopes low) c.find_fault_of_types.ensures
