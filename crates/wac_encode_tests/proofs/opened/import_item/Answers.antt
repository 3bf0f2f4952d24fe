use Rattle.std.proofs.Common.{◌≡◌, ◌∷◌, [], true, ◌∙◌, sym, subst, rules}
use Rattle.std.specs.Prelude.{Contains}
use Rattle.wac_types_shapes.specs.declared.shapes.component.«Type».{«Type» as AnyType}
use Rattle.wac_types_collection.specs.collection.Collection.{holds_type}
use Rattle.wac_encode_interfaces.specs.private.Imports.{ImportsBeside, ImportsOf}
use Rattle.wac_encode_interfaces.specs.private.Ready.{IsClean}
use Rattle.wac_encode_interfaces.specs.private.Paid.{AreSmallWorlds}
use Rattle.wac_encode_interfaces.specs.private.Worlds.{AreWorldTypes, HaveWorlds, written_in}
use Rattle.wac_encode_interfaces.specs.declared.worlds.WorldTypes.{WorldTypes}
use Rattle.wac_encode_tests.proofs.RootItems.{held-one, clean-one, import-ready, item-imported, if-ok-is}
use Rattle.wac_encode_tests.proofs.opened.import_item.Goals as goal

pub assert_importable-requires : goal.assert_importable-requires
assert_importable-requires g c = subst (λ (a : AnyType). holds_type c.args.items.now.types a ≡ true) c.ty-ty.ensures (sym c.contains.ensures ∙ search rules)

pub world_types-worlds-requires-clause-held : goal.world_types-worlds-requires-clause-held
world_types-worlds-requires-clause-held g c = held-one c.args.items.now.types c.ty-ty.result (sym c.contains.ensures ∙ search rules)

pub world_types-worlds-requires-clause-clean : goal.world_types-worlds-requires-clause-clean
world_types-worlds-requires-clause-clean g c = clean-one c.args.items.now.types c.ty-ty.result (subst (IsClean c.args.items.now.types) (sym c.ty-ty.ensures) c.assert_importable.ensures.clean)

pub import_item-imported-requires-clause-writer : goal.import_item-imported-requires-clause-writer
import_item-imported-requires-clause-writer g c =
    c.new-writer.ensures.writer c.requires.closed
    (if-ok-is (λ (ws : WorldTypes). AreWorldTypes c.args.items.now.types (written_in ws)) c.world_types-worlds.result c.expect-worlds.result c.expect-worlds.ensures c.world_types-worlds.ensures.written)
    (if-ok-is (λ (ws : WorldTypes). AreSmallWorlds c.args.items.now.types (written_in ws)) c.world_types-worlds.result c.expect-worlds.result c.expect-worlds.ensures c.world_types-worlds.ensures.sizes)

pub import_item-imported-requires-clause-root : goal.import_item-imported-requires-clause-root
import_item-imported-requires-clause-root g c = c.requires.root.root

pub import_item-imported-requires-clause-ready : goal.import_item-imported-requires-clause-ready
import_item-imported-requires-clause-ready g c =
    let t = c.args.items.now.types in
    import-ready t c.new-writer.result.types.now c.args.merged c.new-writer.result.merged c.expect-worlds.result c.new-writer.result.worlds.now c.args.state.now c.args.item c.ty-ty.result
    c.new-writer.ensures.types c.new-writer.ensures.merged c.new-writer.ensures.worlds c.ty-ty.ensures (sym c.contains.ensures ∙ search rules) c.requires.root c.assert_importable.ensures
    (if-ok-is (λ (ws : WorldTypes). (a : AnyType) → Contains (c.ty-ty.result ∷ []) a → HaveWorlds t (written_in ws) a) c.world_types-worlds.result c.expect-worlds.result c.expect-worlds.ensures c.world_types-worlds.ensures.there)

pub import_item-imported-requires-clause-no_module : goal.import_item-imported-requires-clause-no_module
import_item-imported-requires-clause-no_module g c = c.assert_plain.ensures.module

pub returns : goal.returns
returns g c =
    let t = c.args.items.now.types in
    let b = c.args.merged in
    let u = c.new-writer.result.types.now in
    let d = c.new-writer.result.merged in
    let s = c.args.state.now in
    let v = c.import_item-imported.new.state in
    let after =
    item-imported t u b d c.args.name.now c.args.item c.expect.result s v c.new-writer.ensures.types c.new-writer.ensures.merged c.requires.root c.assert_plain.ensures.resource
    (if-ok-is (ImportsOf u d c.args.name.now c.args.item s v) c.import_item-imported.result c.expect.result c.expect.ensures c.import_item-imported.ensures.imports)
    (if-ok-is (λ i. ImportsBeside d c.args.name.now c.args.item i s v) c.import_item-imported.result c.expect.result c.expect.ensures c.import_item-imported.ensures.beside) in
    record { root = after.0; refers = after.1 }
