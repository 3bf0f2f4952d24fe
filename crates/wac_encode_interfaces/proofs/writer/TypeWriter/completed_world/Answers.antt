use Rattle.std.specs.List.{IsDistinct}
use Rattle.std.proofs.Common.{◌≡◌, sym, ◌∙◌, subst}
use Rattle.std.proofs.lemmas.Result.{IfOk-weaker}
use Rattle.wac_types_shapes.specs.contracts.shapes.component.InterfaceIdPartialEq.TheImpl as IdEq
use Rattle.wac_types_collection.specs.wide.Wide.{AreThere}
use Rattle.wac_types_collection.proofs.lemmas.wide.Members.{in_left, in_right}
use Rattle.wac_encode_scopes.specs.private.Components.{ComponentHasMeaning, component_tree}
use Rattle.wac_encode_faults.specs.private.Ids.{HaveIds}
use Rattle.wac_encode_faults.specs.Sides.{Sides, completed_sides}
use Rattle.wac_encode_faults.specs.Trees.{sides_tree}
use Rattle.wac_encode_interfaces.specs.private.Definitions.{HaveWorldsInside}
use Rattle.wac_encode_interfaces.specs.private.Ready.{AreSidesClean}
use Rattle.wac_encode_interfaces.specs.private.Worlds.{written_in}
use Rattle.wac_encode_interfaces.proofs.DefinedSides.{world-sides, world-defined, one-sides, worlds-given}
use Rattle.wac_encode_interfaces.proofs.WorldsAhead.{world-held-items}
use Rattle.wac_encode_interfaces.proofs.DefinitionCosts.{sized-more, world-definition-less}
use Rattle.wac_encode_interfaces.proofs.Answered.{none-sized}
use Rattle.std.specs.Prelude.{◌*◌, length}
use Rattle.wac_types_shapes.specs.declared.shapes.component.«Type».TheVariants as ty
use Rattle.wac_types_collection.proofs.lemmas.collection.Steady.{within}
use Rattle.wac_types_weight.specs.Weight.{weight}
use Rattle.wac_encode_interfaces.specs.private.Paid.{SizedWithin, around_world, sides_cost}
use Rattle.wac_encode_interfaces.proofs.writer.TypeWriter.completed_world.Goals as goal

pub component_type-requires-clause-held : goal.component_type-requires-clause-held
component_type-requires-clause-held c =
    let types = c.args.self.now.types.now in
    let x = c.index-item.result.now in
    record {
      imports = λ e h. world-held-items types c.law.ensures c.args.world x c.index-item.ensures e (in_left x.imports x.exports e h);
      exports = λ e h. world-held-items types c.law.ensures c.args.world x c.index-item.ensures e (in_right x.imports x.exports e h);
      additional = subst (AreThere types) (sym c.as_slice.ensures.keys) c.in_ok-additional.ensures.there;
    }

pub component_type-requires-clause-once : goal.component_type-requires-clause-once
component_type-requires-clause-once c = subst (IsDistinct (IdEq.ghosts).eq) (sym c.as_slice.ensures.keys) c.as_slice.ensures.unique

pub component_type-requires-clause-clean : goal.component_type-requires-clause-clean
component_type-requires-clause-clean c =
    let types = c.args.self.now.types.now in
    let x = c.index-item.result.now in
    let same = world-sides types x c.as_slice.result.now c.in_ok-additional.additional.keys c.as_slice.ensures.keys (c.in_ok-additional.ensures.interfaces x c.index-item.ensures) in
    subst (AreSidesClean types) (sym same) (c.requires.clean (completed_sides types x) (world-defined types c.args.world x c.index-item.ensures))

pub component_type-requires-clause-worlds : goal.component_type-requires-clause-worlds
component_type-requires-clause-worlds c =
    let types = c.args.self.now.types.now in
    let ws = written_in c.args.self.now.worlds.now in
    let x = c.index-item.result.now in
    let same = world-sides types x c.as_slice.result.now c.in_ok-additional.additional.keys c.as_slice.ensures.keys (c.in_ok-additional.ensures.interfaces x c.index-item.ensures) in
    worlds-given types ws _ (subst (HaveIds types) (sym c.as_slice.ensures.keys) c.in_ok-additional.ensures.named) (subst (HaveWorldsInside types ws) (sym same) (c.requires.worlds (completed_sides types x) (world-defined types c.args.world x c.index-item.ensures)))

pub returns-clause-is : goal.returns-clause-is
returns-clause-is c =
    let types = c.args.self.now.types.now in
    let x = c.index-item.result.now in
    let same = world-sides types x c.as_slice.result.now c.in_ok-additional.additional.keys c.as_slice.ensures.keys (c.in_ok-additional.ensures.interfaces x c.index-item.ensures) in
    IfOk-weaker c.component_type.result _ _
    (λ ds h s is. subst (λ (z : Sides). ComponentHasMeaning ds × (component_tree ds ≡ sides_tree types z)) (same ∙ one-sides (completed_sides types x) s (sym (world-defined types c.args.world x c.index-item.ensures) ∙ is)) h) c.component_type.ensures.meaning

pub returns-in_err-additional-clause-small : goal.returns-in_err-additional-clause-small
returns-in_err-additional-clause-small c =
    none-sized (around_world c.args.self.now.types.now c.args.world) (64 * weight c.args.self.now.types.now (ty.World c.args.world)) c.from_residual.result c.from_residual.ensures.1

pub returns-clause-small : goal.returns-clause-small
returns-clause-small c =
    let types = c.args.self.now.types.now in
    let x = c.index-item.result.now in
    let same = world-sides c.args.self.now.types.now x c.as_slice.result.now c.in_ok-additional.additional.keys c.as_slice.ensures.keys (c.in_ok-additional.ensures.interfaces x c.index-item.ensures) in
    sized-more (around_world c.args.self.now.types.now c.args.world) (sides_cost types (completed_sides types x)) (64 * weight c.args.self.now.types.now (ty.World c.args.world)) c.component_type.result
    (world-definition-less c.weight_law.ensures.world_uses_are_less types c.law.ensures c.args.world (within c.args.world.0 (length types.worlds) c.requires.held) x c.index-item.ensures c.in_ok-additional.additional.keys (c.in_ok-additional.ensures.interfaces x c.index-item.ensures)
    c.as_slice.ensures.unique)
    (subst (λ (s : Sides). SizedWithin 0 (sides_cost types s) c.component_type.result) same c.component_type.ensures.small)
