use Rattle.std.proofs.Common.{◌≡◌, ℕ, List, [], sym, subst, ap, ◌∙◌}
use Rattle.wac_types_shapes.specs.primitives.Name.{Name, option_case}
use Rattle.wac_types_shapes.specs.declared.shapes.component.Interface.{Interface}
use Rattle.wac_types_shapes.specs.declared.shapes.component.InterfaceId.{InterfaceId}
use Rattle.wac_types_shapes.specs.declared.shapes.component.ItemKind.{ItemKind}
use Rattle.wac_types_collection.specs.collection.Collection.{interface_exports}
use Rattle.wac_merge_classes.specs.entries.Classes.{by_names}
use Rattle.wac_merge_classes.specs.terms.Merge.{import_entries}
use Rattle.wac_merge_unions.specs.uses.KeptUses.{uses_of}
use Rattle.wac_merge_unions.specs.uses.Using.{AreAlike, placed_from, uses_among}
use Rattle.wac_merge_unions.proofs.lemmas.uses.Growing.{uses-still}
use Rattle.wac_merge_unions.proofs.lemmas.uses.UsingGrows.{alike-placed, using-placed}
use Rattle.wac_merge_unions.proofs.uses.nested.using_at.Goals as goal

pub using_with-requires-clause-alike : goal.using_with-requires-clause-alike
using_with-requires-clause-alike c =
    let m = c.args.merged.now in
    let t = c.args.asked.now.types.now in
    let places : List ℕ = c.args.places.now in
    let done : List InterfaceId = c.args.done.now in
    let it : Interface = c.index.result.now in
    let f = uses_among by_names t c.args.asked.now.entries.now m (import_entries c.args.imports.now) in
    let listed : it.exports ≡ interface_exports m c.args.id = sym (ap (λ o. option_case o [] (λ (x : Interface). x.exports)) c.index.ensures) in
    subst (λ (es : List (Name × ItemKind)). AreAlike m (interface_exports m c.args.id) es) (sym (c.in_ok-exports.ensures ∙ ap (placed_from places done 0) listed))
    (alike-placed places done t m f c.args.users.now (interface_exports m c.args.id) c.requires.inner)

pub returns-then-is_changed-clause-using : goal.returns-then-is_changed-clause-using
returns-then-is_changed-clause-using c =
    let m = c.args.merged.now in
    let new = c.using_with.new.merged in
    let t = c.args.asked.now.types.now in
    let es = c.args.asked.now.entries.now in
    let imports = import_entries c.args.imports.now in
    let kept = c.using_with.ensures.extended.kept in
    let it : Interface = c.index.result.now in
    using-placed t m new c.law.ensures kept (uses_among by_names t es m imports) (uses_among by_names t es new imports)
    (λ is exports held. sym (uses-still m new c.law.ensures c.law-then-is_changed.ensures kept exports held by_names t es imports c.requires.imports (uses_of t is)))
    c.args.places.now c.args.done.now c.args.users.now c.args.id c.in_ok-id.id it c.index.ensures c.requires.inner c.in_ok-exports.exports c.in_ok-exports.ensures c.in_ok-id.ensures.added

pub returns-clause-using : goal.returns-clause-using
returns-clause-using c =
    let m = c.args.merged.now in
    let new = c.using_here.new.merged in
    let t = c.args.asked.now.types.now in
    let es = c.args.asked.now.entries.now in
    let imports = import_entries c.args.imports.now in
    let kept = c.using_here.ensures.extended.kept in
    let it : Interface = c.index.result.now in
    let listed : it.exports ≡ interface_exports m c.args.id = sym (ap (λ o. option_case o [] (λ (x : Interface). x.exports)) c.index.ensures) in
    using-placed t m new c.law.ensures kept (uses_among by_names t es m imports) (uses_among by_names t es new imports)
    (λ is exports held. sym (uses-still m new c.law.ensures c.law-2.ensures kept exports held by_names t es imports c.requires.imports (uses_of t is)))
    c.args.places.now c.args.done.now c.args.users.now c.args.id c.in_ok-id-2.id it c.index.ensures c.requires.inner (interface_exports m c.args.id)
    (sym listed ∙ sym (c.is_changed.ensures c.if-is_changed.false)) c.in_ok-id-2.ensures.added
