use Rattle.wac_encode_faults.specs.Faults.{IsDefinitionFault}
use Rattle.wac_encode.specs.Root.{WritesTypes}
use Rattle.wac_encode.proofs.Results.{err-encoded, err-of, if-encoded, names-encoded, none-is, ok-encoded, some-is}
use Rattle.wac_encode.proofs.Roots.{keeps-all-old, keeps-old}
use Rattle.wac_encode.proofs.Faultless.{definable}
use Rattle.wac_encode.proofs.encoder.TypeEncoder.definition.Goals as goal

pub returns-in_err-found-clause-refused : goal.returns-in_err-found-clause-refused
returns-in_err-found-clause-refused c = err-of c.from_residual.result (keeps-all-old c.args.self.now.types.now c.args.self.now.merged c.requires.state.0 c.args.state.now c.requires.state.1)

pub returns-in-Some-clause-fault : goal.returns-in-Some-clause-fault
returns-in-Some-clause-fault c = λ m h. some-is (IsDefinitionFault c.args.self.now.types.now m c.args.ty) c.in_ok-found.found c.in-Some.fault c.in-Some.is (c.in_ok-found.ensures m h)

pub returns-in-Some-clause-refused : goal.returns-in-Some-clause-refused
returns-in-Some-clause-refused c = keeps-all-old c.args.self.now.types.now c.args.self.now.merged c.requires.state.0 c.args.state.now c.requires.state.1

pub define-requires : goal.define-requires
define-requires c = definable c.args.self.now.types.now c.args.self.now.merged c.args.state.now c.args.ty c.requires.held c.requires.state (λ m h. none-is (IsDefinitionFault c.args.self.now.types.now m c.args.ty) c.in_ok-found.found c.in-None.is (c.in_ok-found.ensures m h))

pub returns-in-None-clause-writes : goal.returns-in-None-clause-writes
returns-in-None-clause-writes c = ok-encoded (WritesTypes c.args.self.now.types.now c.args.self.now.merged c.args.state.now c.define.new.state) c.define.result c.encode_result.result c.encode_result.ensures c.define.ensures.writes

pub returns-in-None-clause-index : goal.returns-in-None-clause-index
returns-in-None-clause-index c = if-encoded _ c.define.result c.encode_result.result c.encode_result.ensures c.define.ensures.index

pub returns-in-None-clause-fault : goal.returns-in-None-clause-fault
returns-in-None-clause-fault c = λ m h. names-encoded (IsDefinitionFault c.args.self.now.types.now m c.args.ty) c.define.result c.encode_result.result c.encode_result.ensures (none-is (IsDefinitionFault c.args.self.now.types.now m c.args.ty) c.in_ok-found.found c.in-None.is (c.in_ok-found.ensures m h))

pub returns-in-None-clause-refused : goal.returns-in-None-clause-refused
returns-in-None-clause-refused c = err-encoded c.define.result c.encode_result.result c.encode_result.ensures (keeps-old c.args.self.now.types.now c.args.self.now.merged c.requires.state.0 c.args.state.now c.define.new.state c.requires.state.1) c.define.ensures.refused
