use Rattle.std.specs.Prelude.{◌≡◌, List, Some}
use Rattle.std.specs.List.{IsDistinct}
use Rattle.std.proofs.Common.{◌∙◌, refl, sym, subst}
use Rattle.wac_types_shapes.specs.contracts.shapes.component.InterfaceIdPartialEq.TheImpl as IdEq
use Rattle.wac_types_shapes.specs.declared.shapes.component.InterfaceId.{InterfaceId}
use Rattle.wac_types_shapes.specs.declared.shapes.component.World.{World}
use Rattle.wac_types_collection.specs.collection.Collection.{item_at}
use Rattle.wac_types_collection.specs.wide.Wide.{AreThere}
use Rattle.wac_encode_stacks.specs.Good.{nothing_bound}
use Rattle.wac_encode_faults.specs.private.Ids.{HaveIds}
use Rattle.wac_encode_faults.specs.Sides.{unlisted}
use Rattle.wac_encode_interfaces.specs.declared.worlds.WorldTypes.{WorldTypes}
use Rattle.wac_encode_interfaces.specs.private.Paid.{AreSmallWorlds}
use Rattle.wac_encode_interfaces.specs.private.Worlds.{AreWorldTypes, written_in}
use Rattle.wac_encode_interfaces.proofs.WorldsAhead.{held-as}
use Rattle.wac_encode_tests.proofs.RootItems.{if-ok-is}
use Rattle.wac_encode_tests.proofs.WorldDefinitions.{set-is, held-world, clean-world, clean-as, inner-as}
use Rattle.wac_encode_tests.proofs.component_types.component_type.Goals as goal

pub side_world_types-requires-clause-held : goal.side_world_types-requires-clause-held
side_world_types-requires-clause-held g c =
    held-world c.args.types.now c.law.ensures c.args.id c.index-world.result.now c.index-world.ensures refl refl
    (subst (AreThere c.args.types.now) (sym c.as_slice.ensures.keys) (set-is (AreThere c.args.types.now) c.world_additional.result c.expect-additional.result c.expect-additional.ensures c.world_additional.ensures.there))

pub side_world_types-requires-clause-named : goal.side_world_types-requires-clause-named
side_world_types-requires-clause-named g c =
    subst (HaveIds c.args.types.now) (sym c.as_slice.ensures.keys) (set-is (HaveIds c.args.types.now) c.world_additional.result c.expect-additional.result c.expect-additional.ensures c.world_additional.ensures.named)

pub side_world_types-requires-clause-clean : goal.side_world_types-requires-clause-clean
side_world_types-requires-clause-clean g c =
    let types = c.args.types.now in
    let x = c.index-world.result.now in
    let found = set-is (λ (l : List InterfaceId). (y : World) → item_at types.worlds c.args.id.0 ≡ Some y → l ≡ unlisted types y) c.world_additional.result c.expect-additional.result c.expect-additional.ensures c.world_additional.ensures.interfaces in
    clean-world types nothing_bound c.args.id x c.as_slice.result.now c.requires.clean c.index-world.ensures (c.as_slice.ensures.keys ∙ found x c.index-world.ensures)

pub component_type-requires-clause-writer : goal.component_type-requires-clause-writer
component_type-requires-clause-writer g c =
    c.new-writer.ensures.writer c.requires.closed (if-ok-is (λ (ws : WorldTypes). AreWorldTypes c.args.types.now (written_in ws)) c.side_world_types.result c.expect-worlds.result c.expect-worlds.ensures c.side_world_types.ensures.written)
    (if-ok-is (λ (ws : WorldTypes). AreSmallWorlds c.args.types.now (written_in ws)) c.side_world_types.result c.expect-worlds.result c.expect-worlds.ensures c.side_world_types.ensures.sizes)

pub component_type-requires-clause-held : goal.component_type-requires-clause-held
component_type-requires-clause-held g c =
    held-as c.args.types.now c.new-writer.result.types.now c.new-writer.ensures.types (held-world c.args.types.now c.law.ensures c.args.id c.index-world.result.now c.index-world.ensures refl refl
    (subst (AreThere c.args.types.now) (sym c.as_slice.ensures.keys) (set-is (AreThere c.args.types.now) c.world_additional.result c.expect-additional.result c.expect-additional.ensures c.world_additional.ensures.there)))

pub component_type-requires-clause-once : goal.component_type-requires-clause-once
component_type-requires-clause-once g c = subst (IsDistinct (IdEq.ghosts).eq) (sym c.as_slice.ensures.keys) c.as_slice.ensures.unique

pub component_type-requires-clause-clean : goal.component_type-requires-clause-clean
component_type-requires-clause-clean g c =
    let types = c.args.types.now in
    let x = c.index-world.result.now in
    let ids = c.as_slice.result.now in
    let found = set-is (λ (l : List InterfaceId). (y : World) → item_at types.worlds c.args.id.0 ≡ Some y → l ≡ unlisted types y) c.world_additional.result c.expect-additional.result c.expect-additional.ensures c.world_additional.ensures.interfaces in
    clean-as types c.new-writer.result.types.now x ids c.new-writer.ensures.types (clean-world types nothing_bound c.args.id x ids c.requires.clean c.index-world.ensures (c.as_slice.ensures.keys ∙ found x c.index-world.ensures))

pub component_type-requires-clause-worlds : goal.component_type-requires-clause-worlds
component_type-requires-clause-worlds g c =
    inner-as c.args.types.now c.new-writer.result.types.now c.side_world_types.result c.expect-worlds.result c.new-writer.result.worlds.now c.expect-worlds.ensures c.new-writer.ensures.types c.new-writer.ensures.worlds c.side_world_types.ensures.there
