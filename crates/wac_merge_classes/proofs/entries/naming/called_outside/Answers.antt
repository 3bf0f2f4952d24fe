use Rattle.std.proofs.Common.{◌<◌, Some, length, sym, ap, ◌∙◌, subst}
use Rattle.wac_types_shapes.specs.declared.shapes.component.ResourceId.{ResourceId}
use Rattle.wac_merge_classes.specs.entries.Agreement.{called_outside}
use Rattle.wac_merge_classes.specs.entries.Classes.{by_names}
use Rattle.wac_merge_classes.specs.private.entries.Walking.{by_first}
use Rattle.wac_merge_classes.proofs.lemmas.entries.Walking.{if-ok, outside-first, resolved-held}
use Rattle.wac_merge_classes.proofs.entries.naming.called_outside.Goals as goal

pub called_first-requires : goal.called_first-requires
called_first-requires c =
    subst (λ x. x.0 < length c.args.types.now.resources) (sym c.resolve_resource-resource.ensures.end) (resolved-held c.args.types.now c.law.ensures c.args.resource c.requires.held)

pub returns : goal.returns
returns c =
    let t = c.args.types.now in
    let r : ResourceId = c.resolve_resource-resource.result in
    if-ok c.called_first.result
    (λ x is es are.
    ap (called_outside by_names t es) (sym c.resolve_resource-resource.ensures.end)
    ∙ (outside-first t r es ∙ ap (λ y. Some y) (sym (is ∙ ap (by_first t r) (are.firsts r)))))
    c.called_first.ensures
