use Rattle.wac_types_shapes.specs.declared.shapes.component.«Type».TheVariants as ty
use Rattle.wac_encode.specs.Errors.{HasTypeFault}
use Rattle.wac_encode.specs.Root.{WritesTypes}
use Rattle.wac_encode.proofs.Results.{err-encoded, err-of, if-encoded, names-encoded, none-is, ok-encoded, some-is}
use Rattle.wac_encode.proofs.Roots.{keeps-all-old, keeps-old}
use Rattle.wac_encode.proofs.Faultless.{writable}
use Rattle.wac_encode.proofs.encoder.TypeEncoder.value_type.Goals as goal

pub returns-in_err-found-clause-refused : goal.returns-in_err-found-clause-refused
returns-in_err-found-clause-refused c = err-of c.from_residual.result (keeps-all-old c.args.self.now.types.now c.args.self.now.merged c.requires.state.0 c.args.state.now c.requires.state.1)

pub returns-in-Some-clause-fault : goal.returns-in-Some-clause-fault
returns-in-Some-clause-fault c = λ m h. some-is (HasTypeFault c.args.self.now.types.now m (ty.Value c.args.value)) c.in_ok-found.found c.in-Some.fault c.in-Some.is (c.in_ok-found.ensures m h)

pub returns-in-Some-clause-refused : goal.returns-in-Some-clause-refused
returns-in-Some-clause-refused c = keeps-all-old c.args.self.now.types.now c.args.self.now.merged c.requires.state.0 c.args.state.now c.requires.state.1

pub write_value-requires : goal.write_value-requires
write_value-requires c = writable c.args.self.now.types.now c.args.self.now.merged c.args.state.now (ty.Value c.args.value) c.requires.held c.requires.state (λ m h. none-is (HasTypeFault c.args.self.now.types.now m (ty.Value c.args.value)) c.in_ok-found.found c.in-None.is (c.in_ok-found.ensures m h))

pub returns-in-None-clause-writes : goal.returns-in-None-clause-writes
returns-in-None-clause-writes c = ok-encoded (WritesTypes c.args.self.now.types.now c.args.self.now.merged c.args.state.now c.write_value.new.state) c.write_value.result c.encode_result.result c.encode_result.ensures c.write_value.ensures.writes

pub returns-in-None-clause-means : goal.returns-in-None-clause-means
returns-in-None-clause-means c = if-encoded _ c.write_value.result c.encode_result.result c.encode_result.ensures c.write_value.ensures.means

pub returns-in-None-clause-named : goal.returns-in-None-clause-named
returns-in-None-clause-named c = if-encoded _ c.write_value.result c.encode_result.result c.encode_result.ensures c.write_value.ensures.named

pub returns-in-None-clause-fault : goal.returns-in-None-clause-fault
returns-in-None-clause-fault c = λ m h. names-encoded (HasTypeFault c.args.self.now.types.now m (ty.Value c.args.value)) c.write_value.result c.encode_result.result c.encode_result.ensures (none-is (HasTypeFault c.args.self.now.types.now m (ty.Value c.args.value)) c.in_ok-found.found c.in-None.is (c.in_ok-found.ensures m h))

pub returns-in-None-clause-refused : goal.returns-in-None-clause-refused
returns-in-None-clause-refused c = err-encoded c.write_value.result c.encode_result.result c.encode_result.ensures (keeps-old c.args.self.now.types.now c.args.self.now.merged c.requires.state.0 c.args.state.now c.write_value.new.state c.requires.state.1) c.write_value.ensures.refused
