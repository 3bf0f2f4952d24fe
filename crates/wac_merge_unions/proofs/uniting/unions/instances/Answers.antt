use Rattle.std.proofs.Common.{◌∙◌, ap, ℕ, get_or}
use Rattle.wac_types_shapes.specs.declared.shapes.component.ItemKind.{ItemKind}
use Rattle.wac_types_shapes.specs.declared.shapes.component.ItemKind.TheVariants as kind
use Rattle.wac_types_shapes.specs.declared.shapes.component.«Type».TheVariants as ty
use Rattle.wac_types_shapes.proofs.lemmas.shapes.Names.{element_at}
use Rattle.wac_merge_unions.proofs.lemmas.uniting.UnionPlaces.{instance_next, no_instance_next}
use Rattle.wac_merge_unions.proofs.uniting.unions.instances.Goals as goal
use Rattle.wac_merge_unions.proofs.uniting.unions.instances.Goals.{in-Instance+in_ok-push, in_default}

pub loop-index-preserved : goal.loop-index-preserved
loop-index-preserved c =
    let ls = c.args.listed.now in
    let i = c.loop-index.index in
    let d : ℕ × ItemKind = (0, kind.TypeItem (ty.Resource (record { 0 = 0 }))) in
    let l : ℕ × ItemKind = get_or ls i d in
    let at = element_at ls i d c.loop-index-test.true in
    elim c.match-kind.branch [
      | in-Instance+in_ok-push w ↦ instance_next ls c.loop-index.instances.items c.match-kind.instances.items i l.0 l.1 w.in-Instance.interface at w.in-Instance.is c.loop-index.invariant (ap (λ p. p.items) w.instances-is ∙ w.in_ok-push.ensures.items)
      | in_default w ↦ ap (λ p. p.items) w.instances-is ∙ no_instance_next ls c.loop-index.instances.items i l.0 l.1 at w.in_default.not-Instance c.loop-index.invariant
    ]
