use Rattle.std.proofs.Common.{sym}
use Rattle.wac_types_shapes.specs.declared.shapes.component.ValueType.TheVariants as val
use Rattle.wac_encode_scopes.proofs.Stepped.{goes-both, all-both}
use Rattle.wac_encode_values.specs.private.Values.{IsWrittenAs, IsByName}
use Rattle.wac_encode_values.proofs.Ready.{on-ok, if-ok, all-ok, can-begin, found-written, found-missing, by-name-written, by-name-missing, written-end}
use Rattle.wac_encode_scopes.proofs.Paying.{exit-answer, then-answer, priced-stays}
use Rattle.wac_encode_values.proofs.Covered.{end-covers}
use Rattle.wac_encode_values.proofs.encoder.ValueEncoder.value_type.Goals as goal

pub returns-in-Written-clause-written : goal.returns-in-Written-clause-written
returns-in-Written-clause-written c = found-written c.args.self.now.types.now c.args.self.now.merged c.find.new.state c.args.value c.in_ok-written.field-0 c.in-Written.written c.in-Written.is c.in_ok-written.ensures.found

pub returns-in-Written-clause-named : goal.returns-in-Written-clause-named
returns-in-Written-clause-named c = by-name-written c.args.self.now.types.now c.args.self.now.closed.now c.args.self.now.merged c.args.state.now c.find.new.state c.args.value c.in_ok-written.field-0 c.in-Written.written c.in-Written.is c.in_ok-written.ensures.named

pub write-requires-clause-begin : goal.write-requires-clause-begin
write-requires-clause-begin c =
    let t = c.args.self.now.types.now in
    let b = c.args.self.now.merged in
    can-begin t c.law.ensures b c.args.state.now c.find.new.state c.args.value c.in-Missing.id c.in_ok-written.ensures.goes c.requires.ready (found-missing t b c.find.new.state c.args.value c.in_ok-written.field-0 c.in-Missing.id c.in-Missing.is c.in_ok-written.ensures.found)

pub returns-in-Missing-clause-goes : goal.returns-in-Missing-clause-goes
returns-in-Missing-clause-goes c = on-ok c.write.result (λ h. goes-both c.step_law.ensures.follows c.args.self.now.types.now c.args.self.now.merged c.args.state.now c.find.new.state c.write.new.state c.in_ok-written.ensures.goes h) c.write.ensures.goes

pub returns-in-Missing-clause-written : goal.returns-in-Missing-clause-written
returns-in-Missing-clause-written c =
    let t = c.args.self.now.types.now in
    let b = c.args.self.now.merged in
    let f = found-missing t b c.find.new.state c.args.value c.in_ok-written.field-0 c.in-Missing.id c.in-Missing.is c.in_ok-written.ensures.found in
    if-ok (IsWrittenAs t b c.write.new.state (val.Defined c.in-Missing.id)) (IsWrittenAs t b c.write.new.state c.args.value) c.write.result
    (λ x h. written-end c.alias_law.ensures t c.law.ensures b c.write.new.state c.args.value (val.Defined c.in-Missing.id) x (sym f.0) h) c.write.ensures.written

pub returns-in-Missing-clause-named : goal.returns-in-Missing-clause-named
returns-in-Missing-clause-named c =
    let t = c.args.self.now.types.now in
    let b = c.args.self.now.merged in
    all-ok (IsByName t c.args.self.now.closed.now b c.args.state.now c.write.new.state c.args.value) c.write.result
    (λ x. by-name-missing t c.args.self.now.closed.now b c.args.state.now c.find.new.state c.write.new.state c.args.value c.in_ok-written.field-0 c.in-Missing.id x c.in-Missing.is c.in_ok-written.ensures.found c.in_ok-written.ensures.named)

pub returns-in-Missing-clause-types : goal.returns-in-Missing-clause-types
returns-in-Missing-clause-types c = all-both c.args.state.now c.find.new.state c.write.new.state c.find.ensures.types c.write.ensures.types

pub returns-in_err-written-clause-paid : goal.returns-in_err-written-clause-paid
returns-in_err-written-clause-paid c ts covers priced = exit-answer c.args.self.now.types.now c.args.self.now.merged ts 0 c.args.state.now _ _ c.from_residual.result c.from_residual.ensures.1 (c.in_err-written.ensures.paid ts covers priced)

pub returns-in-Written-clause-paid : goal.returns-in-Written-clause-paid
returns-in-Written-clause-paid c ts covers priced = c.in_ok-written.ensures.paid ts covers priced

pub returns-in-Missing-clause-paid : goal.returns-in-Missing-clause-paid
returns-in-Missing-clause-paid c ts covers priced =
    let t = c.args.self.now.types.now in
    let b = c.args.self.now.merged in
    let f = found-missing t b c.find.new.state c.args.value c.in_ok-written.field-0 c.in-Missing.id c.in-Missing.is c.in_ok-written.ensures.found in
    then-answer t b ts 0 0 c.args.state.now c.find.new.state c.write.new.state c.write.result (c.in_ok-written.ensures.paid ts covers priced)
    (c.write.ensures.paid ts (end-covers c.weight_law.ensures.covers_end t ts c.args.value (val.Defined c.in-Missing.id) f.0 covers) (priced-stays b c.args.state.now c.find.new.state c.find.ensures.types priced))
