use Rattle.std.proofs.Common.{◌≡◌}
use Rattle.std.proofs.lemmas.List.Elements.{same_from_all_zip}
use Rattle.wac_types_collection.proofs.collection.collection.TypesClone.clone.Goals as goal

pub invariant_of-result : goal.invariant_of-result
invariant_of-result c =
    let resource_ends = same_from_all_zip (λ a b. b ≡ a) _ _ c.in_ok-clone-2.ensures.cases.0 (λ x y r. r) in
    let value_ends = same_from_all_zip (λ a b. b ≡ a) _ _ c.in_ok-clone-5.ensures.cases.0 (λ x y r. r) in
    rw (c.in_ok-clone.ensures.cases, resource_ends, c.in_ok-clone-3.ensures.cases, c.in_ok-clone-4.ensures.cases, value_ends, c.in_ok-clone-6.ensures.cases, c.in_ok-clone-7.ensures.cases, c.in_ok-clone-8.ensures.cases) c.self.invariant

pub returns : goal.returns
returns c = record { cases = rw (c.in_ok-clone.ensures.cases, c.in_ok-clone-3.ensures.cases, c.in_ok-clone-4.ensures.cases, c.in_ok-clone-6.ensures.cases, c.in_ok-clone-7.ensures.cases, c.in_ok-clone-8.ensures.cases) c.self.view_is }
