use Rattle.std.proofs.Common.{◌≡◌, true, subst}
use Rattle.wac_types_shapes.specs.declared.shapes.component.«Type».{«Type» as AnyType}
use Rattle.wac_types_collection.specs.collection.Collection.{holds_type}
use Rattle.wac_encode_tests.proofs.HandWritten.{ok-ready}
use Rattle.wac_encode_tests.proofs.by_hand.as_it_is.Goals as goal

pub component-requires-clause-held : goal.component-requires-clause-held
component-requires-clause-held c = subst (λ (a : AnyType). holds_type c.args.encoder.now.types.now a ≡ true) c.in-World.is c.requires.held

pub returns-in-World : goal.returns-in-World
returns-in-World c = ok-ready c.args.encoder.now.types.now c.args.encoder.now.merged c.args.state.now c.component.new.state c.component.result c.component.ensures.writes c.requires.ready

pub returns-in_default : goal.returns-in_default
returns-in_default c = ok-ready c.args.encoder.now.types.now c.args.encoder.now.merged c.args.state.now c.ty.new.state c.ty.result c.ty.ensures.writes c.requires.ready
