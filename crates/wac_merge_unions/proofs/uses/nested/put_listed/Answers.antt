use Rattle.std.proofs.Common.{◌≡◌, List, Some, slice_get, refl, ◌∙◌, add-one}
use Rattle.wac_types_shapes.specs.primitives.Name.{Name}
use Rattle.wac_types_shapes.specs.declared.shapes.component.ItemKind.{ItemKind}
use Rattle.wac_types_shapes.proofs.lemmas.shapes.Names.{none_before}
use Rattle.wac_merge_unions.proofs.lemmas.uses.InnerUsers.{more-next, more-nothing}
use Rattle.wac_merge_unions.proofs.uses.nested.put_listed.Goals as goal

pub loop-i-init : goal.loop-i-init
loop-i-init c = more-nothing c.args.listed.now _ c.args.lists.now.items refl

pub put_named-requires : goal.put_named-requires
put_named-requires c = c.loop-i.invariant.counted ∙ c.requires

pub loop-i-preserved : goal.loop-i-preserved
loop-i-preserved c =
    let others : List (Name × ItemKind) = c.args.others.now in
    let e : Name × ItemKind = (c.entry_at.result.0.now, c.entry_at.result.1.now) in
    let at : slice_get others c.loop-i.i ≡ Some e = c.entry_at.ensures in
    rw add-one (more-next c.args.listed.now others c.loop-i.i e c.args.lists.now.items c.loop-i.lists.items c.put_named.new.lists.items at (none_before others c.loop-i.i e.0 e.1 c.law.ensures at) c.loop-i.invariant c.in_ok-put_named.ensures)
