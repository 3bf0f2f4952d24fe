use Rattle.std.proofs.Common.{◌≡◌, true, false, refl, sym, ◌∙◌, arith, Contains}
use Rattle.wac_types_shapes.specs.primitives.Name.{Name}
use Rattle.wac_types_shapes.specs.declared.shapes.component.UsedType.{UsedType}
use Rattle.wac_types_collection.proofs.lemmas.wide.Members.{at_in}
use Rattle.wac_types_collection.proofs.lemmas.wide.Once.{among_in, in_among}
use Rattle.wac_encode_faults.proofs.Dependencies.{all_none, all_next, all_before, second_at}
use Rattle.wac_encode_faults.proofs.unlisted.uses_other.Goals as goal

pub loop-i-init : goal.loop-i-init
loop-i-init c = all_none (λ (e : Name × UsedType). Contains c.args.listed.now.keys e.1.interface) c.args.uses.now

pub loop-i-preserved : goal.loop-i-preserved
loop-i-preserved c =
    let (n, at) = second_at c.args.uses.now c.loop-i.i c.value_at.result.now c.value_at.ensures in
    all_next (λ (e : Name × UsedType). Contains c.args.listed.now.keys e.1.interface) c.args.uses.now c.loop-i.i (n, c.value_at.result.now) at
    (among_in c.args.listed.now.keys c.value_at.result.now.interface (sym c.contains.ensures ∙ c.if-not-contains.false)) c.loop-i.invariant

pub returns-then-not-contains : goal.returns-then-not-contains
returns-then-not-contains c =
    let (n, at) = second_at c.args.uses.now c.loop-i.i c.value_at.result.now c.value_at.ensures in (
      λ t. (
        n,
        c.value_at.result.now,
        at_in c.args.uses.now c.loop-i.i (n, c.value_at.result.now) at,
        λ h. let wrong : false ≡ true = sym c.if-not-contains.true ∙ (c.contains.ensures ∙ in_among c.args.listed.now.keys c.value_at.result.now.interface h) in cc,
      ),
      λ h. refl,
    )

pub returns : goal.returns
returns c =
    let past = c.loop-i-test.false in
    let counted = c.len-i-end.ensures in
    (λ t. cc, λ h. absurd (h.3 (all_before (λ (e : Name × UsedType). Contains c.args.listed.now.keys e.1.interface) c.args.uses.now c.loop-i.i (h.0, h.1) (omega (arith, past, counted)) c.loop-i.invariant h.2)))
