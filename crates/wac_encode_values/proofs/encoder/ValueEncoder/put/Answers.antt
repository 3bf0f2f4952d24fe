use Rattle.wac_types_shapes.specs.declared.shapes.component.ValueType.TheVariants as val
use Rattle.wac_encode_values.proofs.Ready.{recorded-written}
use Rattle.wac_encode_scopes.proofs.Paying.{exit-answer}
use Rattle.wac_encode_values.proofs.encoder.ValueEncoder.put.Goals as goal

pub returns-clause-written : goal.returns-clause-written
returns-clause-written c = recorded-written c.step_law.ensures.is_recorded c.args.self.now.types.now c.args.self.now.merged c.define.new.self (val.Defined c.args.id) c.in_ok-index.ensures.recorded.0 c.in_ok-index.index c.in_ok-index.ensures.recorded.1

pub returns-in_err-index-clause-paid : goal.returns-in_err-index-clause-paid
returns-in_err-index-clause-paid c x at sized ts covers priced = exit-answer c.args.self.now.types.now c.args.self.now.merged ts 0 c.args.state.now _ _ c.from_residual.result c.from_residual.ensures.1 (c.in_err-index.ensures.paid c.args.self.now.types.now x at sized ts covers priced)

pub returns-clause-paid : goal.returns-clause-paid
returns-clause-paid c x at sized ts covers priced = c.in_ok-index.ensures.paid c.args.self.now.types.now x at sized ts covers priced
