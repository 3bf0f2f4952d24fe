use Rattle.wac_encode_scopes.proofs.Stepped.{goes-none, all-both}
use Rattle.std.proofs.Common.{refl}
use Rattle.wac_encode_values.proofs.Params.{params-first, params-more, param-ready}
use Rattle.wac_encode_scopes.proofs.Paying.{pays-nothing, pays-both, priced-stays, memory-answer, exit-then}
use Rattle.wac_encode_values.proofs.Covered.{param-covers}
use Rattle.wac_encode_values.proofs.Sized.{all-push, all-none}
use Rattle.wac_encode_values.specs.private.Parts.{IsShortField}
use Rattle.wac_binary.specs.declared.fault.BinaryFault.TheVariants.{OutOfMemory}
use Rattle.wac_encode_values.proofs.encoder.ValueEncoder.params.Goals as goal

pub loop-i-init : goal.loop-i-init
loop-i-init c = record {
  so_far = params-first c.args.self.now.types.now c.args.self.now.merged c.args.state.now c.args.params.now c.new-written.result.items (goes-none c.still_law.ensures c.args.self.now.merged c.args.state.now c.args.self.now.types.now) c.new-written.ensures.items;
  short = all-none IsShortField c.new-written.result.items c.new-written.ensures.items;
  paid = λ ts covers priced. pays-nothing c.args.self.now.types.now c.args.self.now.merged ts c.args.state.now;
}

pub value_type-requires-clause-held : goal.value_type-requires-clause-held
value_type-requires-clause-held c = (c.requires.ready c.loop-i.i (c.entry_at.result.0.now, c.entry_at.result.1.now) c.entry_at.ensures).0

pub value_type-requires-clause-ready : goal.value_type-requires-clause-ready
value_type-requires-clause-ready c = param-ready c.args.self.now.types.now c.args.self.now.merged c.args.state.now c.loop-i.state c.args.params.now c.loop-i.i (c.entry_at.result.0.now, c.entry_at.result.1.now) c.requires.ready c.entry_at.ensures c.loop-i.invariant.so_far.0

pub loop-i-preserved : goal.loop-i-preserved
loop-i-preserved c = record {
  so_far = params-more c.bringing_law.ensures.good_once c.step_law.ensures.stays_is c.step_law.ensures.follows c.args.self.now.types.now c.args.self.now.merged c.args.state.now c.loop-i.state c.value_type.new.state c.args.params.now c.loop-i.i (c.entry_at.result.0.now, c.entry_at.result.1.now) (c.entry_at.result.0, c.in_ok-value.value) c.loop-i.written.items c.push.new.self.items c.requires.ready c.entry_at.ensures c.loop-i.invariant.so_far c.in_ok-value.ensures.goes (refl, c.in_ok-value.ensures.written) c.in_ok-push.ensures.items;
  short = all-push IsShortField c.loop-i.written.items c.push.new.self.items (c.entry_at.result.0, c.in_ok-value.value) c.loop-i.invariant.short c.value_law.ensures c.in_ok-push.ensures.items;
  paid = λ ts covers priced. pays-both c.args.self.now.types.now c.args.self.now.merged ts 0 0 c.args.state.now c.loop-i.state c.value_type.new.state (c.loop-i.invariant.paid ts covers priced) (c.in_ok-value.ensures.paid ts (param-covers c.args.self.now.types.now ts c.args.params.now c.loop-i.i (c.entry_at.result.0.now, c.entry_at.result.1.now) covers c.entry_at.ensures) (priced-stays c.args.self.now.merged c.args.state.now c.loop-i.state c.loop-i.invariant.so_far.0.types priced));
}

pub returns-in_err-value-clause-types : goal.returns-in_err-value-clause-types
returns-in_err-value-clause-types c = all-both c.args.state.now c.loop-i.state c.value_type.new.state c.loop-i.invariant.so_far.0.types c.value_type.ensures.types

pub returns-in_err-push-clause-types : goal.returns-in_err-push-clause-types
returns-in_err-push-clause-types c = all-both c.args.state.now c.loop-i.state c.value_type.new.state c.loop-i.invariant.so_far.0.types c.value_type.ensures.types

pub returns-in_err-value-clause-paid : goal.returns-in_err-value-clause-paid
returns-in_err-value-clause-paid c ts covers priced =
    exit-then c.args.self.now.types.now c.args.self.now.merged ts 0 0 c.args.state.now c.loop-i.state _ _ c.from_residual.result c.from_residual.ensures.1
    (c.loop-i.invariant.paid ts covers priced)
    (c.in_err-value.ensures.paid ts (param-covers c.args.self.now.types.now ts c.args.params.now c.loop-i.i (c.entry_at.result.0.now, c.entry_at.result.1.now) covers c.entry_at.ensures) (priced-stays c.args.self.now.merged c.args.state.now c.loop-i.state c.loop-i.invariant.so_far.0.types priced))

pub returns-in_err-push-clause-paid : goal.returns-in_err-push-clause-paid
returns-in_err-push-clause-paid c ts covers priced = memory-answer c.args.self.now.types.now c.args.self.now.merged ts 0 c.args.state.now _ OutOfMemory c.from_residual-in_err-push.result c.from_residual-in_err-push.ensures.1 refl

pub returns-clause-paid : goal.returns-clause-paid
returns-clause-paid c = c.loop-i.invariant.paid
