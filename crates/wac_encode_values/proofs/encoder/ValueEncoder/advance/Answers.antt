use Rattle.std.proofs.Common.{subst}
use Rattle.wac_encode_scopes.proofs.Stepped.{goes-both, all-both}
use Rattle.wac_encode_values.specs.private.Parts.{IsFilled}
use Rattle.wac_encode_values.proofs.Waiting.{begin-on}
use Rattle.wac_encode_scopes.proofs.Paying.{pays-both, priced-stays, exit-answer, exit-then}
use Rattle.wac_encode_values.proofs.encoder.ValueEncoder.advance.Goals as goal

pub returns-in-Some-clause-advanced : goal.returns-in-Some-clause-advanced
returns-in-Some-clause-advanced c = subst (IsFilled c.args.self.now.types.now c.args.self.now.merged c.fill.new.state c.args.id c.fill.new.parts.items) c.in-Some.is c.in_ok-missing.ensures.filled

pub define-requires-clause-begin : goal.define-requires-clause-begin
define-requires-clause-begin c = begin-on c.args.self.now.types.now c.args.self.now.merged c.args.state.now c.fill.new.state c.args.id c.in_ok-missing.ensures.goes c.requires.begin

pub returns-in_err-written-in-None-clause-types : goal.returns-in_err-written-in-None-clause-types
returns-in_err-written-in-None-clause-types c = all-both c.args.state.now c.fill.new.state c.define.new.state c.fill.ensures.types c.define.ensures.types

pub returns-in_ok-written-in-None-clause-goes : goal.returns-in_ok-written-in-None-clause-goes
returns-in_ok-written-in-None-clause-goes c = goes-both c.step_law.ensures.follows c.args.self.now.types.now c.args.self.now.merged c.args.state.now c.fill.new.state c.define.new.state c.in_ok-missing.ensures.goes c.in_ok-written-in-None.ensures.goes

pub returns-in_ok-written-in-None-clause-types : goal.returns-in_ok-written-in-None-clause-types
returns-in_ok-written-in-None-clause-types c = all-both c.args.state.now c.fill.new.state c.define.new.state c.fill.ensures.types c.define.ensures.types

pub returns-in_err-missing-clause-paid : goal.returns-in_err-missing-clause-paid
returns-in_err-missing-clause-paid c ts covers priced = exit-answer c.args.self.now.types.now c.args.self.now.merged ts 0 c.args.state.now _ _ c.from_residual.result c.from_residual.ensures.1 (c.in_err-missing.ensures.paid ts covers priced)

pub returns-in-Some-clause-paid : goal.returns-in-Some-clause-paid
returns-in-Some-clause-paid c ts covers priced = c.in_ok-missing.ensures.paid ts covers priced

pub returns-in_err-written-in-None-clause-paid : goal.returns-in_err-written-in-None-clause-paid
returns-in_err-written-in-None-clause-paid c ts covers priced =
    exit-then c.args.self.now.types.now c.args.self.now.merged ts 0 0 c.args.state.now c.fill.new.state _ _ c.from_residual-in_err-written-in-None.result c.from_residual-in_err-written-in-None.ensures.1
    (c.in_ok-missing.ensures.paid ts covers priced) (c.in_err-written-in-None.ensures.paid ts covers (priced-stays c.args.self.now.merged c.args.state.now c.fill.new.state c.fill.ensures.types priced))

pub returns-in_ok-written-in-None-clause-paid : goal.returns-in_ok-written-in-None-clause-paid
returns-in_ok-written-in-None-clause-paid c ts covers priced =
    pays-both c.args.self.now.types.now c.args.self.now.merged ts 0 0 c.args.state.now c.fill.new.state c.define.new.state (c.in_ok-missing.ensures.paid ts covers priced) (c.in_ok-written-in-None.ensures.paid ts covers (priced-stays c.args.self.now.merged c.args.state.now c.fill.new.state c.fill.ensures.types priced))
