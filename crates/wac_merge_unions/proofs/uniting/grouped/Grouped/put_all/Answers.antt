use Rattle.std.proofs.Common.{◌∙◌, take, ap, sym, add-one}
use Rattle.wac_types_shapes.specs.primitives.Name.{Name}
use Rattle.wac_types_shapes.specs.declared.shapes.component.ItemKind.{ItemKind}
use Rattle.wac_types_shapes.proofs.lemmas.shapes.Names.{take_at}
use Rattle.wac_merge_unions.specs.private.uniting.UnionSteps.{with_listed}
use Rattle.wac_merge_unions.proofs.lemmas.uniting.UnionGroups.{all_listed_push}
use Rattle.wac_merge_unions.proofs.uniting.grouped.Grouped.put_all.Goals as goal

pub loop-index-preserved : goal.loop-index-preserved
loop-index-preserved c =
    let gs = c.args.self.now in
    let p = c.args.part in
    let es = c.args.exports.now in
    let i = c.loop-index.index in
    let e : Name × ItemKind = (c.entry_at.result.0.now, c.entry_at.result.1.now) in
    rw (add-one, take_at es i e c.entry_at.ensures)
    (c.in_ok-put.ensures ∙ ap (λ x. with_listed x e.0 (p, e.1)) c.loop-index.invariant ∙ sym (all_listed_push gs p (take i es) e))
