use Rattle.std.proofs.Common.{◌≡◌, List, [], Some, sym, subst, ap, ◌∙◌, true}
use Rattle.wac_types_collection.specs.collection.Collection.{Collection, HasInterface, IsWellFormed, holds_all, interface_exports, item_at, kind_types}
use Rattle.wac_types_shapes.specs.primitives.Name.{Name, option_case}
use Rattle.wac_types_shapes.specs.declared.shapes.component.Interface.{Interface}
use Rattle.wac_types_shapes.specs.declared.shapes.component.InterfaceId.{InterfaceId}
use Rattle.wac_types_shapes.specs.declared.shapes.component.ItemKind.{ItemKind}
use Rattle.wac_types_shapes.specs.declared.shapes.component.UsedType.{UsedType}
use Rattle.wac_merge_classes.specs.entries.Classes.{by_names}
use Rattle.wac_merge_classes.specs.terms.Merge.{import_entries}
use Rattle.wac_merge_unions.specs.uses.KeptUses.{uses_of}
use Rattle.wac_merge_unions.specs.uses.Using.{AreAlike, IsWithUses, uses_among}
use Rattle.wac_merge_unions.proofs.lemmas.uses.Growing.{interface-there, uses-still}
use Rattle.wac_merge_unions.proofs.lemmas.uses.UsingRight.{exports-alike, may-have}
use Rattle.wac_merge_unions.proofs.uses.nested.using_with.Goals as goal

-- its items are like those
alike_there : (m : Collection) (i : InterfaceId) (it : Interface) (es : List (Name × ItemKind)) → item_at m.interfaces i.0 ≡ Some it → AreAlike m (interface_exports m i) es → AreAlike m it.exports es
alike_there m i it es at alike = subst (λ (xs : List (Name × ItemKind)). AreAlike m xs es) (ap (λ o. option_case o [] (λ (x : Interface). x.exports)) at) alike

exports_there : (m : Collection) (i : InterfaceId) (es : List (Name × ItemKind)) → IsWellFormed m → HasInterface m i → AreAlike m (interface_exports m i) es → holds_all m (kind_types es) ≡ true
exports_there m i es wf held alike = let it = interface-there m i held in exports-alike m i it.0 es wf it.1 (alike_there m i it.0 es it.1 alike)

pub add_using-requires-clause-right : goal.add_using-requires-clause-right
add_using-requires-clause-right c =
    let m = c.args.merged.now in
    let t = c.args.asked.now.types.now in
    let it = interface-there m c.args.id c.requires.there in
    may-have by_names t c.args.asked.now.entries.now m (import_entries c.args.imports.now) (uses_of t c.args.users.now) c.in_ok-uses.uses c.args.id it.0 c.args.exports c.law.ensures c.uses_law.ensures
    it.1 (c.requires.none it.0 it.1) (alike_there m c.args.id it.0 c.args.exports it.1 c.requires.alike) c.law-2.ensures c.in_ok-uses.ensures

pub add_using-requires-clause-exports : goal.add_using-requires-clause-exports
add_using-requires-clause-exports c = exports_there c.args.merged.now c.args.id c.args.exports c.law.ensures c.requires.there c.requires.alike

pub returns-clause-added : goal.returns-clause-added
returns-clause-added c =
    let m = c.args.merged.now in
    let new = c.add_using.new.merged in
    let t = c.args.asked.now.types.now in
    let es = c.args.asked.now.entries.now in
    let imports = import_entries c.args.imports.now in
    let users = c.args.users.now in
    let uses : c.in_ok-uses.uses ≡ uses_among by_names t es new imports users c.args.exports =
    c.in_ok-uses.ensures ∙ sym (uses-still m new c.law.ensures c.law-3.ensures c.add_using.ensures.extended.kept c.args.exports (exports_there m c.args.id c.args.exports c.law.ensures c.requires.there c.requires.alike) by_names t es imports c.requires.imports (uses_of t users)) in
    subst (λ (us : List (Name × UsedType)). IsWithUses new c.args.id c.in_ok-id.id c.args.exports us) uses c.in_ok-id.ensures.added
