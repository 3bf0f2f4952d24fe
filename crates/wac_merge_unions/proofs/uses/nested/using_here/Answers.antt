use Rattle.std.proofs.Common.{◌≡◌, List, [], sym, subst, ap, ◌∙◌, true}
use Rattle.wac_types_collection.specs.collection.Collection.{holds_all, interface_exports, kind_types}
use Rattle.wac_types_shapes.specs.primitives.Name.{Name, option_case}
use Rattle.wac_types_shapes.specs.declared.shapes.component.Interface.{Interface}
use Rattle.wac_types_shapes.specs.declared.shapes.component.ItemKind.{ItemKind}
use Rattle.wac_types_shapes.specs.declared.shapes.component.UsedType.{UsedType}
use Rattle.wac_merge_classes.specs.entries.Classes.{by_names}
use Rattle.wac_merge_classes.proofs.lemmas.entries.Places.{exports_held}
use Rattle.wac_merge_classes.specs.terms.Merge.{import_entries}
use Rattle.wac_merge_unions.specs.uses.KeptUses.{uses_of}
use Rattle.wac_merge_unions.specs.uses.Using.{IsWithUses, MayHave, uses_among}
use Rattle.wac_merge_unions.proofs.lemmas.uses.Growing.{uses-still}
use Rattle.wac_merge_unions.proofs.lemmas.uses.UsingRight.{all-alike, may-have}
use Rattle.wac_merge_unions.proofs.uses.nested.using_here.Goals as goal

pub add_using-requires-clause-right : goal.add_using-requires-clause-right
add_using-requires-clause-right c =
    let m = c.args.merged.now in
    let t = c.args.asked.now.types.now in
    let it : Interface = c.index.result.now in
    subst (λ (es : List (Name × ItemKind)). MayHave m c.args.id es c.in_ok-uses.uses) (sym c.in_ok-exports.ensures)
    (may-have by_names t c.args.asked.now.entries.now m (import_entries c.args.imports.now) (uses_of t c.args.users.now) c.in_ok-uses.uses c.args.id it it.exports c.law.ensures c.uses_law.ensures
    c.index.ensures (c.requires.none it c.index.ensures) (all-alike m it.exports) c.law-2.ensures c.in_ok-uses.ensures)

pub add_using-requires-clause-exports : goal.add_using-requires-clause-exports
add_using-requires-clause-exports c =
    let m = c.args.merged.now in
    let it : Interface = c.index.result.now in
    subst (λ (es : List (Name × ItemKind)). holds_all m (kind_types es) ≡ true) (sym c.in_ok-exports.ensures) (exports_held m c.law.ensures c.args.id it c.index.ensures)

pub returns-clause-added : goal.returns-clause-added
returns-clause-added c =
    let m = c.args.merged.now in
    let new = c.add_using.new.merged in
    let t = c.args.asked.now.types.now in
    let es = c.args.asked.now.entries.now in
    let imports = import_entries c.args.imports.now in
    let users = c.args.users.now in
    let it : Interface = c.index.result.now in
    let listed : it.exports ≡ interface_exports m c.args.id = sym (ap (λ o. option_case o [] (λ (x : Interface). x.exports)) c.index.ensures) in
    let kept = c.add_using.ensures.extended.kept in
    let uses : c.in_ok-uses.uses ≡ uses_among by_names t es new imports users (interface_exports m c.args.id) =
    c.in_ok-uses.ensures ∙ (sym (uses-still m new c.law.ensures c.law-3.ensures kept it.exports (exports_held m c.law.ensures c.args.id it c.index.ensures) by_names t es imports c.requires.imports (uses_of t users))
    ∙ ap (uses_among by_names t es new imports users) listed) in
    subst (λ (us : List (Name × UsedType)). IsWithUses new c.args.id c.in_ok-id.id (interface_exports m c.args.id) us) uses
    (subst (λ (xs : List (Name × ItemKind)). IsWithUses new c.args.id c.in_ok-id.id xs c.in_ok-uses.uses) (c.in_ok-exports.ensures ∙ listed) c.in_ok-id.ensures.added)
