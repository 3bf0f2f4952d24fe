use Rattle.wac_encode_scopes.proofs.Stepped.{goes-none, all-none}
use Rattle.wac_encode_scopes.proofs.Paying.{pays-nothing, exit-answer}
use Rattle.wac_encode_scopes.specs.private.Paid.{CoversPart}
use Rattle.std.proofs.Common.{subst}
use Rattle.wac_encode_values.proofs.encoder.ValueEncoder.optional.Goals as goal

pub value_type-requires-clause-ready : goal.value_type-requires-clause-ready
value_type-requires-clause-ready c = (c.requires.ready c.in-Some.value c.in-Some.is).1

pub returns-in-None-clause-goes : goal.returns-in-None-clause-goes
returns-in-None-clause-goes c = goes-none c.still_law.ensures c.args.self.now.merged c.args.state.now c.args.self.now.types.now

pub returns-in-None-clause-types : goal.returns-in-None-clause-types
returns-in-None-clause-types c = all-none c.args.state.now

pub returns-in-None-clause-paid : goal.returns-in-None-clause-paid
returns-in-None-clause-paid c ts covers priced = pays-nothing c.args.self.now.types.now c.args.self.now.merged ts c.args.state.now

pub returns-in_err-written-in-Some-clause-paid : goal.returns-in_err-written-in-Some-clause-paid
returns-in_err-written-in-Some-clause-paid c ts covers priced = exit-answer c.args.self.now.types.now c.args.self.now.merged ts 0 c.args.state.now _ _ c.from_residual.result c.from_residual.ensures.1 (c.in_err-written-in-Some.ensures.paid ts (subst (CoversPart c.args.self.now.types.now ts) c.in-Some.is covers) priced)

pub returns-in_ok-written-in-Some-clause-paid : goal.returns-in_ok-written-in-Some-clause-paid
returns-in_ok-written-in-Some-clause-paid c ts covers priced = c.in_ok-written-in-Some.ensures.paid ts (subst (CoversPart c.args.self.now.types.now ts) c.in-Some.is covers) priced
