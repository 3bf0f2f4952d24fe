use Rattle.std.specs.Prelude.{◌≡◌, List, true, Contains}
use Rattle.std.proofs.Common.{◌∙◌, sym, subst, rules}
use Rattle.wac_types_shapes.specs.declared.shapes.component.«Type».{«Type» as AnyType}
use Rattle.wac_types_collection.specs.collection.Collection.{holds_type}
use Rattle.wac_encode_interfaces.specs.private.Ready.{IsClean}
use Rattle.wac_encode_interfaces.specs.private.Paid.{AreSmallWorlds}
use Rattle.wac_encode_interfaces.specs.private.Worlds.{AreWorldTypes, HaveWorlds, written_in}
use Rattle.wac_encode_interfaces.specs.declared.worlds.WorldTypes.{WorldTypes}
use Rattle.wac_encode_tests.specs.private.Opened.{CanDefine}
use Rattle.wac_encode_tests.proofs.RootDefinitions.{define-ready, root-goes, roots-are}
use Rattle.wac_encode_tests.proofs.RootItems.{if-ok-is, on-ok-is}
use Rattle.wac_encode_tests.proofs.defined.define.Goals as goal

pub assert_definable-requires : goal.assert_definable-requires
assert_definable-requires g c = subst (λ (a : AnyType). holds_type c.args.items.now.types a ≡ true) c.ty-ty.ensures (sym c.contains.ensures ∙ search rules)

pub definition_roots-requires : goal.definition_roots-requires
definition_roots-requires g c = sym c.contains.ensures ∙ search rules

pub world_types-worlds-requires-clause-held : goal.world_types-worlds-requires-clause-held
world_types-worlds-requires-clause-held g c =
    let t = c.args.items.now.types in
    let are = roots-are t c.ty-ty.result c.definition_roots.result c.expect-roots.result c.expect-roots.ensures c.definition_roots.ensures.roots in
    subst (λ (xs : List AnyType). (a : AnyType) → Contains xs a → holds_type t a ≡ true) (sym c.as_slice.ensures.value) are.held

pub world_types-worlds-requires-clause-clean : goal.world_types-worlds-requires-clause-clean
world_types-worlds-requires-clause-clean g c =
    let t = c.args.items.now.types in
    let r = c.requires.root in
    let can = subst (CanDefine t c.args.merged c.args.state.now) (sym c.ty-ty.ensures) c.assert_definable.ensures in
    let are = roots-are t c.ty-ty.result c.definition_roots.result c.expect-roots.result c.expect-roots.ensures c.definition_roots.ensures.roots in
    subst (λ (xs : List AnyType). (a : AnyType) → Contains xs a → IsClean t a) (sym c.as_slice.ensures.value) (are.clean _ (can r.bindings r.good))

pub definition-defined-requires-clause-writer : goal.definition-defined-requires-clause-writer
definition-defined-requires-clause-writer g c =
    c.new-writer.ensures.writer c.requires.closed
    (if-ok-is (λ (ws : WorldTypes). AreWorldTypes c.args.items.now.types (written_in ws)) c.world_types-worlds.result c.expect-worlds.result c.expect-worlds.ensures c.world_types-worlds.ensures.written)
    (if-ok-is (λ (ws : WorldTypes). AreSmallWorlds c.args.items.now.types (written_in ws)) c.world_types-worlds.result c.expect-worlds.result c.expect-worlds.ensures c.world_types-worlds.ensures.sizes)

pub definition-defined-requires-clause-ready : goal.definition-defined-requires-clause-ready
definition-defined-requires-clause-ready g c =
    let t = c.args.items.now.types in
    let a = c.ty-ty.result in
    let can = subst (CanDefine t c.args.merged c.args.state.now) (sym c.ty-ty.ensures) c.assert_definable.ensures in
    let are = roots-are t a c.definition_roots.result c.expect-roots.result c.expect-roots.ensures c.definition_roots.ensures.roots in
    let there =
    if-ok-is (λ (ws : WorldTypes). (x : AnyType) → Contains c.as_slice.result.now x → HaveWorlds t (written_in ws) x) c.world_types-worlds.result c.expect-worlds.result c.expect-worlds.ensures c.world_types-worlds.ensures.there in
    define-ready t c.new-writer.result.types.now c.args.merged c.new-writer.result.merged c.expect-worlds.result c.new-writer.result.worlds.now c.args.state.now a c.expect-roots.result.items
    c.new-writer.ensures.types c.new-writer.ensures.merged c.new-writer.ensures.worlds (sym c.contains.ensures ∙ search rules) c.requires.root can are
    (subst (λ (xs : List AnyType). (x : AnyType) → Contains xs x → HaveWorlds t (written_in c.expect-worlds.result) x) c.as_slice.ensures.value there)

pub returns : goal.returns
returns g c =
    root-goes c.args.items.now.types c.new-writer.result.types.now c.args.merged c.new-writer.result.merged c.args.state.now c.definition-defined.new.state c.new-writer.ensures.types c.new-writer.ensures.merged c.requires.root
    (on-ok-is c.definition-defined.result c.expect.result c.expect.ensures c.definition-defined.ensures.goes)
