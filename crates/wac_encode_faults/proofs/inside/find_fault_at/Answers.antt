use Rattle.std.proofs.Common.{◌++◌, ◌⊎◌, sym, subst}
use Rattle.wac_encode_faults.specs.Faults.{IsLowest, IsFaultOfListed}
use Rattle.wac_encode_faults.specs.private.Search.{lower_of}
use Rattle.wac_encode_faults.proofs.Lowest.{lowest_same, lowest_of_both}
use Rattle.wac_encode_faults.proofs.Listing.{fault_of_both, listed_interface, listed_world, nothing_listed, listed_none}
use Rattle.wac_encode_faults.proofs.inside.find_fault_at.Goals as goal

pub returns-in-Interface : goal.returns-in-Interface
returns-in-Interface c =
    subst (λ es. IsLowest (IsFaultOfListed es) c.find_listed_fault.result) (sym (listed_interface c.args.types.now c.args.ty c.in-Interface.id c.index.result.now c.in-Interface.is c.index.ensures)) c.find_listed_fault.ensures

pub returns-in-World : goal.returns-in-World
returns-in-World c =
    let imports = (c.index-world.result.now).imports in
    let exports = (c.index-world.result.now).exports in
    let first = c.find_listed_fault-in-World.result in
    let second = c.find_listed_fault-in-World-2.result in
    let low = lowest_of_both (IsFaultOfListed imports) (IsFaultOfListed exports) first second c.find_listed_fault-in-World.ensures c.find_listed_fault-in-World-2.ensures in
    subst (λ es. IsLowest (IsFaultOfListed es) c.lower.result) (sym (listed_world c.args.types.now c.args.ty c.in-World.id c.index-world.result.now c.in-World.is c.index-world.ensures))
    (subst (IsLowest (IsFaultOfListed (imports ++ exports))) (sym c.lower.ensures)
    (lowest_same (λ f. IsFaultOfListed imports f ⊎ IsFaultOfListed exports f) (IsFaultOfListed (imports ++ exports)) (lower_of first second) (fault_of_both imports exports) low))

pub returns-in_default : goal.returns-in_default
returns-in_default c = λ f h. let none = subst (λ es. IsFaultOfListed es f) (nothing_listed c.args.types.now c.args.ty c.in_default.not-Interface c.in_default.not-World) h in listed_none none.0 none.1
