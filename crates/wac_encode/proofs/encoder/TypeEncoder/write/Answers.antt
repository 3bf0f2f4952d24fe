use Rattle.wac_types_shapes.specs.declared.shapes.component.«Type».TheVariants as ty
use Rattle.wac_encode.proofs.Results.{if-ok}
use Rattle.wac_encode.proofs.Faultless.{may-define, writable-as}
use Rattle.wac_encode.proofs.WrittenTypes.{plain-refers, refers-as}
use Rattle.wac_encode.proofs.encoder.TypeEncoder.write.Goals as goal

pub write_interface-requires : goal.write_interface-requires
write_interface-requires c = writable-as c.args.self.now.types.now c.args.self.now.merged c.args.state.now c.args.ty (ty.Interface c.in-Interface.id) c.in-Interface.is c.requires

pub returns-in-Interface-clause-index : goal.returns-in-Interface-clause-index
returns-in-Interface-clause-index c = if-ok _ _ c.write_interface.result (λ k h m s. refers-as c.args.self.now.types.now m c.args.ty (ty.Interface c.in-Interface.id) c.write_interface.new.state k c.in-Interface.is (h m s)) c.write_interface.ensures.index

pub write_world-requires : goal.write_world-requires
write_world-requires c = writable-as c.args.self.now.types.now c.args.self.now.merged c.args.state.now c.args.ty (ty.World c.in-World.id) c.in-World.is c.requires

pub returns-in-World-clause-index : goal.returns-in-World-clause-index
returns-in-World-clause-index c = if-ok _ _ c.write_world.result (λ k h m s. refers-as c.args.self.now.types.now m c.args.ty (ty.World c.in-World.id) c.write_world.new.state k c.in-World.is (h m s)) c.write_world.ensures.index

pub write_module-requires : goal.write_module-requires
write_module-requires c = writable-as c.args.self.now.types.now c.args.self.now.merged c.args.state.now c.args.ty (ty.Module c.in-Module.id) c.in-Module.is c.requires

pub returns-in-Module-clause-index : goal.returns-in-Module-clause-index
returns-in-Module-clause-index c = if-ok _ _ c.write_module.result (λ k h m s. refers-as c.args.self.now.types.now m c.args.ty (ty.Module c.in-Module.id) c.write_module.new.state k c.in-Module.is (h m s)) c.write_module.ensures.index

pub define-requires : goal.define-requires
define-requires c = may-define c.args.self.now.types.now c.args.self.now.merged c.args.state.now c.args.ty c.requires c.in_default.not-Interface c.in_default.not-World c.in_default.not-Module

pub returns-in_default-clause-index : goal.returns-in_default-clause-index
returns-in_default-clause-index c = if-ok _ _ c.define.result (λ k h m s. plain-refers c.args.self.now.types.now m c.args.ty c.define.new.state k c.in_default.not-Interface c.in_default.not-World c.in_default.not-Module (h m s)) c.define.ensures.index
