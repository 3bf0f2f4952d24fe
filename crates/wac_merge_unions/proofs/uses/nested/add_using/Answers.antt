use Rattle.std.proofs.Common.{◌≡◌, Some, sym, subst, ap, ◌∙◌}
use Rattle.wac_types_collection.specs.collection.Collection.{Collection}
use Rattle.wac_types_shapes.specs.declared.shapes.component.Interface.{Interface}
use Rattle.wac_types_collection.specs.private.subtyping.Extended.{IsExtended}
use Rattle.wac_merge_unions.proofs.lemmas.uses.Growing.{extended-interface, interface-added, with-uses}
use Rattle.wac_merge_unions.proofs.uses.nested.add_using.Goals as goal

pub returns-in-Ok-clause-extended : goal.returns-in-Ok-clause-extended
returns-in-Ok-clause-extended c =
    subst (λ (m : Collection). IsExtended c.args.merged.now m) (sym c.in-Ok.ensures.added.1)
    (extended-interface c.args.merged.now c.growth_keeps_trees.ensures (record { id = c.in_ok-text.text; uses = c.args.uses; exports = c.args.exports }))

pub returns-in-Ok-clause-added : goal.returns-in-Ok-clause-added
returns-in-Ok-clause-added c =
    let m = c.args.merged.now in
    let it : Interface = c.index.result.now in
    let new : Interface = record { id = c.in_ok-text.text; uses = c.args.uses; exports = c.args.exports } in
    let extended : IsExtended m c.add_interface.new.self =
    subst (λ (y : Collection). IsExtended m y) (sym c.in-Ok.ensures.added.1) (extended-interface m c.growth_keeps_trees.ensures new) in
    let same : ◌≡◌ {A = Interface} new (record { id = it.id; uses = c.args.uses; exports = c.args.exports }) =
    (λ i. record { id = c.in_ok-text.ensures i; uses = c.args.uses; exports = c.args.exports }) in
    with-uses m c.add_interface.new.self c.law.ensures extended.kept c.args.id c.in-Ok.id it c.args.exports c.args.uses c.index.ensures c.requires.exports
    (interface-added m c.add_interface.new.self new c.in-Ok.id c.in-Ok.ensures.added.0 c.in-Ok.ensures.added.1 ∙ ap (λ (y : Interface). Some y) same) c.requires.right
