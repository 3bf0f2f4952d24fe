use Rattle.std.proofs.Common.{◌≡◌, refl, arith, subst}
use Rattle.wac_types_shapes.specs.declared.shapes.component.ModuleTypeId.{ModuleTypeId}
use Rattle.wac_types_shapes.specs.declared.shapes.component.«Type».TheVariants as ty
use Rattle.wac_types_collection.specs.reach.Reach.{IsIn}
use Rattle.wac_types_collection.proofs.lemmas.reach.Lists.{in_at, at_in}
use Rattle.wac_encode_faults.proofs.Dependencies.{all_none, all_next}
use Rattle.wac_encode_faults.proofs.component.has_module_type.Goals as goal

pub loop-i-init : goal.loop-i-init
loop-i-init c = all_none (λ t. (m : ModuleTypeId) → t ≡ ty.Module m → ⊥) c.args.found.now.keys

pub type_at-ty-requires : goal.type_at-ty-requires
type_at-ty-requires c = let l = c.len-i-end.ensures.len in let t = c.loop-i-test.true in omega (arith, l, t)

pub loop-i-preserved : goal.loop-i-preserved
loop-i-preserved c = all_next (λ t. (m : ModuleTypeId) → t ≡ ty.Module m → ⊥) c.args.found.now.keys c.loop-i.i c.type_at-ty.result c.type_at-ty.ensures c.in_default.not-Module c.loop-i.invariant

pub returns-in-Module : goal.returns-in-Module
returns-in-Module c = (
  λ t. (c.in-Module.field-0, subst (λ z. IsIn z c.args.found.now.keys) c.in-Module.is (in_at c.type_at-ty.result c.args.found.now.keys c.loop-i.i c.type_at-ty.ensures)),
  λ h. refl,
)

pub returns : goal.returns
returns c =
    let past = c.loop-i-test.false in
    let counted = c.len-i-end.ensures.len in (
      λ t. cc,
      λ h. let (p, l, at) = at_in (ty.Module h.0) c.args.found.now.keys h.1 in absurd (c.loop-i.invariant p (ty.Module h.0) (omega (arith, l, past, counted)) at h.0 refl),
    )
