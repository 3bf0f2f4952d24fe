use Rattle.std.proofs.Common.{Some, ap, sym, ◌∙◌}
use Rattle.std.proofs.lemmas.Result.{IfOk-weaker}
use Rattle.wac_encode_interfaces.proofs.Definitions.{world-named, world-is, world-means}
use Rattle.wac_encode_interfaces.proofs.DefinitionCosts.{around-named, sized-large, sized-through}
use Rattle.wac_encode_interfaces.proofs.SideCosts.{exit-sized}
use Rattle.std.specs.Prelude.{◌+◌, ◌*◌, length}
use Rattle.std.specs.List.{flat_map}
use Rattle.wac_types_shapes.specs.declared.shapes.component.«Type».TheVariants as ty
use Rattle.wac_types_weight.specs.Weight.{weight}
use Rattle.wac_binary.specs.Bytes.{decl_bytes}
use Rattle.wac_encode_interfaces.specs.private.Paid.{around_world}
use Rattle.wac_encode_interfaces.proofs.writer.TypeWriter.world_definition.Goals as goal

pub unreachable-requires : goal.unreachable-requires
unreachable-requires c = world-named c.args.self.now.types.now c.args.world c.index.result.now c.index.ensures c.in_default.is c.requires.ready.named

pub exporting-requires : goal.exporting-requires
exporting-requires c = world-means c.args.self.now.types.now c.args.world c.index.result.now c.in_ok-component.component c.index.ensures c.in_ok-component.ensures.is

pub returns-clause-is : goal.returns-clause-is
returns-clause-is c =
    IfOk-weaker c.exporting.result _ _
    (λ ds is. world-is c.args.self.now.types.now c.args.world c.index.result.now c.as_str.result.now c.in_ok-component.component ds c.index.ensures (c.in-Some.is ∙ ap Some (sym c.as_str.ensures)) c.in_ok-component.ensures.is is) c.exporting.ensures.is

pub completed_world-requires-clause-held : goal.completed_world-requires-clause-held
completed_world-requires-clause-held c = c.requires.ready.held

pub completed_world-requires-clause-clean : goal.completed_world-requires-clause-clean
completed_world-requires-clause-clean c = c.requires.ready.clean

pub completed_world-requires-clause-worlds : goal.completed_world-requires-clause-worlds
completed_world-requires-clause-worlds c = c.requires.ready.worlds

pub returns-in_err-component-clause-small : goal.returns-in_err-component-clause-small
returns-in_err-component-clause-small c =
    exit-sized 17 (64 * weight c.args.self.now.types.now (ty.World c.args.world)) _ c.from_residual.result c.from_residual.ensures.1 (λ is. sized-large (around_world c.args.self.now.types.now c.args.world) (64 * weight c.args.self.now.types.now (ty.World c.args.world)) _ is c.in_err-component.ensures.small)

pub returns-clause-small : goal.returns-clause-small
returns-clause-small c =
    let bytes = length (flat_map decl_bytes c.in_ok-component.component) in
    sized-through 17 (44 + 2 * length c.as_str.result.now + bytes) (64 * weight c.args.self.now.types.now (ty.World c.args.world)) c.exporting.result
    (around-named c.args.self.now.types.now c.args.world c.index.result.now c.as_str.result.now bytes (64 * weight c.args.self.now.types.now (ty.World c.args.world)) c.index.ensures (c.in-Some.is ∙ ap Some (sym c.as_str.ensures)) c.in_ok-component.ensures.small) c.exporting.ensures.small
