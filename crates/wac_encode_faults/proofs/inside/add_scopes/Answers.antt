use Rattle.std.proofs.Common.{ap, sym, ◌∙◌, drop, ◌+◌}
use Rattle.wac_types_shapes.specs.shapes.Kinds.{kind_type}
use Rattle.wac_types_collection.specs.private.reach.Found.{with_all}
use Rattle.wac_types_collection.proofs.lemmas.reach.Lists.{drop_second}
use Rattle.wac_encode_faults.specs.private.Search.{scope_of, scopes_of}
use Rattle.wac_encode_faults.proofs.Listing.{scope_first}
use Rattle.wac_encode_faults.proofs.inside.add_scopes.Goals as goal

pub loop-i-preserved : goal.loop-i-preserved
loop-i-preserved c =
    let (_, is) = drop_second c.args.items.now c.loop-i.i c.value_at.result.now c.value_at.ensures in
    let ts = c.loop-i.found.keys in
    let left = scopes_of (drop (c.loop-i.i + 1) c.args.items.now) in
    ap (λ us. with_all us left) (c.in_ok-add_scope.ensures ∙ ap (λ t. with_all ts (scope_of t)) c.ty.ensures) ∙ scope_first ts (kind_type c.value_at.result.now) left ∙ sym (ap (λ xs. with_all ts (scopes_of xs)) is) ∙ c.loop-i.invariant
