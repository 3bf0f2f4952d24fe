use Rattle.std.proofs.Common.{ap, [], Option}
use Rattle.std.proofs.lemmas.Result.{on_ok_weaker}
use Rattle.wac_types_shapes.specs.primitives.Name.{option_case}
use Rattle.wac_types_shapes.specs.declared.shapes.component.Interface.{Interface}
use Rattle.wac_types_shapes.specs.declared.shapes.component.«Type».TheVariants as ty
use Rattle.wac_encode_interfaces.proofs.WorldsAhead.{world-lists}
use Rattle.wac_encode_interfaces.proofs.InnerTypes.{interface-steps, world-steps, nothing-listed, no-more-steps}
use Rattle.wac_encode_interfaces.proofs.inside.push_inner.Goals as goal

pub returns-in-Interface : goal.returns-in-Interface
returns-in-Interface c =
    let lists = ap (λ (o : Option Interface). option_case o [] (λ x. x.exports)) c.index.ensures in
    on_ok_weaker c.push_items.result (λ grown. interface-steps c.args.types.now (ty.Interface c.in-Interface.id) c.args.ty c.args.pending.now.items c.push_items.new.pending.items (c.index.result.now).exports c.in-Interface.is lists grown) c.push_items.ensures

pub returns-in_ok-push_items-in-World : goal.returns-in_ok-push_items-in-World
returns-in_ok-push_items-in-World c =
    on_ok_weaker c.push_items-in-World-2.result (λ grown. world-steps c.args.types.now (ty.World c.in-World.id) c.args.ty c.args.pending.now.items c.push_items-in-World.new.pending.items c.push_items-in-World-2.new.pending.items (c.index-world.result.now).imports (c.index-world.result.now).exports c.in-World.is
    (world-lists c.args.types.now c.in-World.id c.index-world.result.now c.index-world.ensures) c.in_ok-push_items-in-World.ensures grown) c.push_items-in-World-2.ensures

pub returns-in_default : goal.returns-in_default
returns-in_default c = no-more-steps c.args.types.now c.args.ty c.args.pending.now.items (nothing-listed c.args.types.now c.args.ty c.in_default.not-Interface c.in_default.not-World)
