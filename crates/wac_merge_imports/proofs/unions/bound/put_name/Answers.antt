use Rattle.std.proofs.Common.{[], ◌∷◌, Err, ap, sym, ◌∙◌, subst}
use Rattle.wac_types_shapes.specs.primitives.Name.{find_name}
use Rattle.wac_merge_classes.proofs.lemmas.entries.Numbers.{some-there}
use Rattle.wac_merge_imports.specs.private.unions.BoundNames.{AddsNames}
use Rattle.wac_merge_imports.proofs.lemmas.unions.BoundNames.{names-none, names-pushed, names-there}
use Rattle.wac_merge_imports.proofs.unions.bound.put_name.Goals as goal

pub returns-then-not-item_binds : goal.returns-then-not-item_binds
returns-then-not-item_binds c = names-none c.args.bindings.now c.args.number c.args.name.now c.args.kind c.args.names.now c.item_binds.result c.item_binds.ensures c.if-not-item_binds.true

pub returns-in-Ok : goal.returns-in-Ok
returns-in-Ok c =
    let b = c.args.bindings.now in
    subst (AddsNames b c.args.number ((c.args.name.now, c.args.kind) ∷ []) c.args.names.now) (sym c.in-Ok.ensures.inserted)
    (names-pushed b c.args.number c.args.name.now c.args.kind c.args.names.now (c.item_binds.ensures.0 c.if-not-item_binds.false))

pub returns-in-Err-NameTwice : goal.returns-in-Err-NameTwice
returns-in-Err-NameTwice c =
    let b = c.args.bindings.now in
    let there = some-there (find_name c.args.names.now c.args.name.now) (c.insert.ensures.name_twice.0 (c.in-Err-NameTwice.is ∙ ap Err c.in-Err-NameTwice.field-0-is)) in
    subst (AddsNames b c.args.number ((c.args.name.now, c.args.kind) ∷ []) c.args.names.now) (sym c.in-Err-NameTwice.ensures.refused)
    (names-there b c.args.number c.args.name.now c.args.kind c.args.names.now there)
