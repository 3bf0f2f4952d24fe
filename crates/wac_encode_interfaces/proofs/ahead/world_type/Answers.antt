use Rattle.std.specs.List.{IsDistinct}
use Rattle.std.proofs.Common.{◌≡◌, ap, sym, ◌∙◌, subst}
use Rattle.wac_types_collection.specs.collection.Collection.{Collection}
use Rattle.wac_types_collection.proofs.lemmas.wide.Members.{in_none, in_left, in_right}
use Rattle.wac_encode_faults.specs.Sides.{world_sides}
use Rattle.wac_encode_scopes.specs.private.Components.{ComponentHasMeaning, component_tree}
use Rattle.wac_encode_interfaces.specs.private.Worlds.{written_in}
use Rattle.wac_encode_interfaces.specs.private.Ready.{AreSidesClean}
use Rattle.wac_encode_faults.specs.Trees.{sides_tree}
use Rattle.wac_encode_interfaces.specs.private.InnerTypes.{IsWorldType}
use Rattle.wac_encode_interfaces.proofs.Written.{if-ok}
use Rattle.wac_encode_interfaces.proofs.WorldsAhead.{clean-sides, is-world-type, world-held-items, world-inner, held-as, worlds-as}
use Rattle.wac_encode_interfaces.proofs.DefinitionCosts.{sized-more}
use Rattle.wac_encode_interfaces.proofs.Costs.{world-sides-cost}
use Rattle.wac_encode_interfaces.proofs.Answered.{same-less}
use Rattle.std.specs.Prelude.{◌+◌}
use Rattle.wac_encode_scopes.specs.private.Paid.{world_cost}
use Rattle.wac_encode_interfaces.specs.private.Paid.{SizedWithin, sides_cost}
use Rattle.wac_encode_interfaces.proofs.ahead.world_type.Goals as goal

pub component_type-requires-clause-writer : goal.component_type-requires-clause-writer
component_type-requires-clause-writer c = c.new-writer.ensures.writer c.requires.closed c.requires.written c.requires.sizes

pub component_type-requires-clause-held : goal.component_type-requires-clause-held
component_type-requires-clause-held c =
    let types = c.args.types.now in
    let x = c.index-item.result.now in
    held-as types c.new-writer.result.types.now c.new-writer.ensures.types (record {
      imports = λ e h. world-held-items types c.law.ensures c.args.world x c.index-item.ensures e (in_left x.imports x.exports e h);
      exports = λ e h. world-held-items types c.law.ensures c.args.world x c.index-item.ensures e (in_right x.imports x.exports e h);
      additional = λ i h. absurd (in_none i h);
    })

pub component_type-requires-clause-once : goal.component_type-requires-clause-once
unfolding IsDistinct
component_type-requires-clause-once c = tt

pub component_type-requires-clause-clean : goal.component_type-requires-clause-clean
component_type-requires-clause-clean c =
    subst (λ (z : Collection). AreSidesClean z (world_sides c.index-item.result.now)) (sym c.new-writer.ensures.types)
    (clean-sides c.args.types.now c.args.world c.index-item.result.now c.index-item.ensures c.requires.clean.1)

pub component_type-requires-clause-worlds : goal.component_type-requires-clause-worlds
component_type-requires-clause-worlds c =
    let types = c.args.types.now in
    let x = c.index-item.result.now in
    worlds-as types c.new-writer.result.types.now c.args.written.now c.new-writer.result.worlds.now c.new-writer.ensures.types c.new-writer.ensures.worlds (record {
      imports = λ e h. world-inner types (written_in c.args.written.now) c.args.world x c.index-item.ensures c.requires.inner e (in_left x.imports x.exports e h);
      exports = λ e h. world-inner types (written_in c.args.written.now) c.args.world x c.index-item.ensures c.requires.inner e (in_right x.imports x.exports e h);
      additional = λ i h. absurd (in_none i h);
    })

pub returns-clause-is : goal.returns-clause-is
returns-clause-is c =
    let types = c.args.types.now in
    let x = c.index-item.result.now in
    if-ok (λ ds. ComponentHasMeaning ds × (component_tree ds ≡ sides_tree c.new-writer.result.types.now (world_sides x))) (IsWorldType types c.args.world) c.component_type.result
    (λ ds h. is-world-type types c.law.ensures c.args.world x c.index-item.ensures ds h.0 (h.1 ∙ ap (λ (z : Collection). sides_tree z (world_sides x)) c.new-writer.ensures.types)) c.component_type.ensures.meaning

pub returns-clause-small : goal.returns-clause-small
returns-clause-small c =
    let types = c.args.types.now in
    let x = c.index-item.result.now in
    sized-more 17 (sides_cost types (world_sides x)) (world_cost types c.args.world) c.component_type.result (same-less (17 + sides_cost types (world_sides x)) (world_cost types c.args.world) (world-sides-cost types c.args.world x c.index-item.ensures))
    (subst (λ (z : Collection). SizedWithin 0 (sides_cost z (world_sides x)) c.component_type.result) c.new-writer.ensures.types c.component_type.ensures.small)
