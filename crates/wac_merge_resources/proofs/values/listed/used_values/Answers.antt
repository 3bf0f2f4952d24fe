use Rattle.std.proofs.Common.{List, sym, ap, ◌∙◌, add-one}
use Rattle.wac_types_shapes.specs.primitives.Name.{Name}
use Rattle.wac_types_shapes.specs.declared.shapes.component.DefinedTypeId.{DefinedTypeId}
use Rattle.wac_types_shapes.specs.declared.shapes.component.UsedType.{UsedType}
use Rattle.wac_merge_resources.specs.private.values.Listings.{has_value}
use Rattle.wac_merge_resources.proofs.lemmas.values.Listings.{used_held, uses-none, uses-some}
use Rattle.wac_merge_resources.proofs.values.listed.used_values.Goals as goal
use Rattle.wac_merge_resources.proofs.values.listed.used_values.Goals.{in-Some+in_ok-insert, in_default}

pub used_value-requires : goal.used_value-requires
used_value-requires c = used_held c.args.types.now c.args.uses.now c.loop-i.i (c.entry_at.result.0.now, c.entry_at.result.1.now) c.requires c.entry_at.ensures

pub loop-i-preserved : goal.loop-i-preserved
loop-i-preserved c =
    let types = c.args.types.now in
    let uses = c.args.uses.now in
    let i = c.loop-i.i in
    let e : Name × UsedType = (c.entry_at.result.0.now, c.entry_at.result.1.now) in
    let old : List DefinedTypeId = c.loop-i.values.keys in
    let new : List DefinedTypeId = c.match-used_value.values.keys in
    rw add-one (elim c.match-used_value.branch [
      | in-Some+in_ok-insert w ↦ λ d.
          uses-some types uses i e c.entry_at.ensures d w.in-Some.value old new (sym c.used_value.ensures ∙ w.in-Some.is) (c.loop-i.invariant d)
          (ap (λ v. has_value v.keys d) w.values-is ∙ w.in_ok-insert.ensures.updates.0 d)
      | in_default w ↦ λ d.
          ap (λ v. has_value v.keys d) w.values-is
          ∙ uses-none types uses i e c.entry_at.ensures d c.used_value.result old (sym c.used_value.ensures) w.in_default.not-Some (c.loop-i.invariant d)
    ])
