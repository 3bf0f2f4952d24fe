use Rattle.std.proofs.Common.{map, ap, ◌∙◌, arith}
use Rattle.std.proofs.lemmas.List.{take_all}
use Rattle.wac_types_shapes.specs.primitives.Name.{Name}
use Rattle.wac_types_shapes.specs.shapes.Kinds.{kind_type}
use Rattle.wac_types_shapes.specs.declared.shapes.component.ItemKind.{ItemKind}
use Rattle.wac_encode_imports.proofs.Given.{types-more}
use Rattle.wac_encode_imports.proofs.imports.import_types.Goals as goal

pub loop-i-init : goal.loop-i-init
loop-i-init c = c.new-types.ensures.items

pub loop-i-preserved : goal.loop-i-preserved
loop-i-preserved c =
    types-more c.args.imports.now c.loop-i.i (c.entry_at.result.0.now, c.entry_at.result.1.now) c.ty.result c.loop-i.types.items c.push.new.self.items
    c.entry_at.ensures c.ty.ensures c.in_ok-push.ensures.items c.loop-i.invariant

pub returns : goal.returns
returns c =
    let past = c.loop-i-test.false in
    let counted = c.len-i-end.ensures in
    c.loop-i.invariant ∙ ap (map (λ (e : Name × ItemKind). kind_type e.1)) (take_all c.loop-i.i c.args.imports.now (omega (arith, past, counted)))
