use Rattle.wac_types_shapes.specs.declared.shapes.component.«Type».TheVariants as ty
use Rattle.wac_encode_interfaces.proofs.Refused.{keeps-none}
use Rattle.wac_encode_interfaces.proofs.Written.{indexed-at}
use Rattle.wac_encode.proofs.Results.{err-of}
use Rattle.wac_encode.proofs.Roots.{writes-none}
use Rattle.wac_encode.proofs.Faultless.{clean-of}
use Rattle.wac_encode.proofs.WrittenTypes.{type-refers}
use Rattle.wac_encode.proofs.encoder.TypeEncoder.write_world.Goals as goal

pub returns-in-Some-clause-writes : goal.returns-in-Some-clause-writes
returns-in-Some-clause-writes c = writes-none c.args.self.now.types.now c.args.self.now.merged c.args.state.now

pub returns-in-Some-clause-index : goal.returns-in-Some-clause-index
returns-in-Some-clause-index c = λ m h. type-refers c.args.self.now.types.now c.args.self.now.merged m c.args.state.now h c.step_law.ensures.is_its_tree (ty.World c.args.world) c.in-Some.index (indexed-at c.step_law.ensures.stands_recorded c.args.self.now.types.now c.args.self.now.merged c.args.state.now.scopes (ty.World c.args.world) c.index.result c.in-Some.index c.in-Some.is c.index.ensures.some)

pub returns-in_err-closed-clause-refused : goal.returns-in_err-closed-clause-refused
returns-in_err-closed-clause-refused c = err-of c.from_residual.result (keeps-none c.args.state.now.scopes)

pub worlds_inside-requires-clause-clean : goal.worlds_inside-requires-clause-clean
worlds_inside-requires-clause-clean c = clean-of c.args.self.now.types.now c.args.self.now.merged c.args.state.now (ty.World c.args.world) c.requires

pub returns-in_err-worlds-clause-refused : goal.returns-in_err-worlds-clause-refused
returns-in_err-worlds-clause-refused c = err-of c.from_residual-in_err-worlds.result (keeps-none c.args.state.now.scopes)
