use Rattle.std.proofs.Common.{◌≡◌, true, subst}
use Rattle.wac_types_shapes.specs.declared.shapes.component.«Type».{«Type» as AnyType}
use Rattle.wac_types_collection.specs.collection.Collection.{holds_type}
use Rattle.wac_encode_tests.proofs.HandWritten.{ok-ready}
use Rattle.wac_encode_tests.proofs.by_hand.definition.Goals as goal

pub interface-requires-clause-held : goal.interface-requires-clause-held
interface-requires-clause-held c = subst (λ (a : AnyType). holds_type c.args.encoder.now.types.now a ≡ true) c.in-Interface.is c.requires.held

pub returns-in-Interface : goal.returns-in-Interface
returns-in-Interface c = ok-ready c.args.encoder.now.types.now c.args.encoder.now.merged c.args.state.now c.interface.new.state c.interface.result c.interface.ensures.writes c.requires.ready

pub world-requires-clause-held : goal.world-requires-clause-held
world-requires-clause-held c = subst (λ (a : AnyType). holds_type c.args.encoder.now.types.now a ≡ true) c.in-World.is c.requires.held

pub returns-in-World : goal.returns-in-World
returns-in-World c = ok-ready c.args.encoder.now.types.now c.args.encoder.now.merged c.args.state.now c.world.new.state c.world.result c.world.ensures.writes c.requires.ready

pub returns-in_default : goal.returns-in_default
returns-in_default c = ok-ready c.args.encoder.now.types.now c.args.encoder.now.merged c.args.state.now c.ty.new.state c.ty.result c.ty.ensures.writes c.requires.ready
