use Rattle.std.proofs.Common.{◌≡◌, true, false, refl, sym, ◌∙◌, arith, Contains}
use Rattle.wac_types_collection.proofs.lemmas.wide.Members.{at_in}
use Rattle.wac_encode_faults.proofs.Dependencies.{all_none, all_next, all_before}
use Rattle.wac_encode_faults.proofs.FreeParts.{any_in, in_any}
use Rattle.wac_encode_faults.proofs.unbound.has_missing.Goals as goal

pub loop-i-init : goal.loop-i-init
loop-i-init c = all_none (Contains c.args.bound.now.keys) c.args.resources.now.keys

pub resource_at-resource-requires : goal.resource_at-resource-requires
resource_at-resource-requires c = let l = c.len-i-end.ensures.len in let t = c.loop-i-test.true in omega (arith, l, t)

pub loop-i-preserved : goal.loop-i-preserved
loop-i-preserved c =
    all_next (Contains c.args.bound.now.keys) c.args.resources.now.keys c.loop-i.i c.resource_at-resource.result c.resource_at-resource.ensures
    (any_in c.args.bound.now.keys c.resource_at-resource.result (sym c.contains.ensures ∙ c.if-not-contains.false)) c.loop-i.invariant

pub returns-then-not-contains : goal.returns-then-not-contains
returns-then-not-contains c = (
  λ t. (
    c.resource_at-resource.result,
    at_in c.args.resources.now.keys c.loop-i.i c.resource_at-resource.result c.resource_at-resource.ensures,
    λ h. let wrong : false ≡ true = sym c.if-not-contains.true ∙ (c.contains.ensures ∙ in_any c.args.bound.now.keys c.resource_at-resource.result h) in cc,
  ),
  λ h. refl,
)

pub returns : goal.returns
returns c =
    let past = c.loop-i-test.false in
    let counted = c.len-i-end.ensures.len in
    (λ t. cc, λ h. absurd (h.2 (all_before (Contains c.args.bound.now.keys) c.args.resources.now.keys c.loop-i.i h.0 (omega (arith, past, counted)) c.loop-i.invariant h.1)))
