use Rattle.wac_encode_scopes.proofs.Stepped.{goes-none, all-none}
use Rattle.wac_encode_scopes.proofs.Paying.{pays-nothing, exit-answer, memory-answer}
use Rattle.wac_encode_scopes.specs.private.Paid.{CoversPart}
use Rattle.std.proofs.Common.{subst, refl}
use Rattle.wac_binary.specs.declared.fault.BinaryFault.TheVariants.{OutOfMemory}
use Rattle.wac_encode_values.proofs.encoder.ValueEncoder.add.Goals as goal

pub returns-in_err-push-clause-types : goal.returns-in_err-push-clause-types
returns-in_err-push-clause-types c = all-none c.args.state.now

pub returns-in_default-clause-goes : goal.returns-in_default-clause-goes
returns-in_default-clause-goes c = goes-none c.still_law.ensures c.args.self.now.merged c.args.state.now c.args.self.now.types.now

pub returns-in_default-clause-types : goal.returns-in_default-clause-types
returns-in_default-clause-types c = all-none c.args.state.now

pub find-requires-clause-ready : goal.find-requires-clause-ready
find-requires-clause-ready c = (c.requires.ready c.in-Some.value c.in-Some.is).1

pub returns-in_err-push-clause-paid : goal.returns-in_err-push-clause-paid
returns-in_err-push-clause-paid c ts covers priced = memory-answer c.args.self.now.types.now c.args.self.now.merged ts 0 c.args.state.now _ OutOfMemory c.from_residual.result c.from_residual.ensures.1 refl

pub returns-in_default-clause-paid : goal.returns-in_default-clause-paid
returns-in_default-clause-paid c ts covers priced = pays-nothing c.args.self.now.types.now c.args.self.now.merged ts c.args.state.now

pub returns-in_err-written-clause-paid : goal.returns-in_err-written-clause-paid
returns-in_err-written-clause-paid c ts covers priced = exit-answer c.args.self.now.types.now c.args.self.now.merged ts 0 c.args.state.now _ _ c.from_residual-in_err-written.result c.from_residual-in_err-written.ensures.1 (c.in_err-written.ensures.paid ts (subst (CoversPart c.args.self.now.types.now ts) c.in-Some.is covers) priced)

pub returns-in_err-push-in-Written-clause-paid : goal.returns-in_err-push-in-Written-clause-paid
returns-in_err-push-in-Written-clause-paid c ts covers priced = memory-answer c.args.self.now.types.now c.args.self.now.merged ts 0 c.args.state.now _ OutOfMemory c.from_residual-in_err-push-in-Written.result c.from_residual-in_err-push-in-Written.ensures.1 refl

pub returns-in_ok-push-in-Written-clause-paid : goal.returns-in_ok-push-in-Written-clause-paid
returns-in_ok-push-in-Written-clause-paid c ts covers priced = c.in_ok-written.ensures.paid ts (subst (CoversPart c.args.self.now.types.now ts) c.in-Some.is covers) priced

pub returns-in-Missing-clause-paid : goal.returns-in-Missing-clause-paid
returns-in-Missing-clause-paid c ts covers priced = c.in_ok-written.ensures.paid ts (subst (CoversPart c.args.self.now.types.now ts) c.in-Some.is covers) priced
