use Rattle.std.proofs.Common.{ap, sym, ◌∙◌, subst, Contains}
use Rattle.wac_types_collection.specs.collection.Held.{resolved}
use Rattle.wac_encode_faults.proofs.FreeParts.{any_in, one_resource}
use Rattle.wac_encode_faults.proofs.bound_types.is_bound.Goals as goal

pub returns-in_default : goal.returns-in_default
returns-in_default c = λ is_true r is. absurd (c.in_default.not-Resource r is)

pub returns : goal.returns
returns c = λ is_true r is.
    let same = one_resource c.in-Resource.id r (sym c.in-Resource.is ∙ is) in
    subst (Contains c.args.bound.now.keys) (c.resolve_resource.ensures.end ∙ ap (resolved c.args.types.now) same) (any_in c.args.bound.now.keys c.resolve_resource.result (sym c.contains.ensures ∙ is_true))
