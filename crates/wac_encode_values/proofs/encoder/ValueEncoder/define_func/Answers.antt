use Rattle.std.proofs.Common.{refl}
use Rattle.wac_types_shapes.specs.declared.shapes.component.«Type».TheVariants as ty
use Rattle.wac_encode_stacks.specs.Scopes.{How}
use Rattle.wac_encode_scopes.specs.States.{IsRecordedAt, IsTypeAt}
use Rattle.wac_encode_scopes.proofs.Stepped.{goes-both, all-both}
use Rattle.wac_encode_values.proofs.Ready.{on-ok, if-ok, type-at, ready-on}
use Rattle.wac_encode_values.proofs.Members.{params-ready, result-ready}
use Rattle.wac_encode_values.proofs.Params.{params-on, part-ready-on, func-says}
use Rattle.wac_encode_scopes.proofs.Paying.{exit-answer, then-answer, pays-both, priced-stays, exit-then}
use Rattle.wac_encode_values.proofs.Covered.{params-covers, result-covers}
use Rattle.wac_encode_values.proofs.Sized.{func-sized}
use Rattle.wac_encode_values.proofs.encoder.ValueEncoder.define_func.Goals as goal

pub params-requires-clause-ready : goal.params-requires-clause-ready
params-requires-clause-ready c = params-ready c.part_law.ensures.holds_func_parts c.args.self.now.types.now c.law.ensures c.args.self.now.merged c.args.state.now c.args.id c.index-held.result.now c.index-held.ensures c.requires.ready

pub optional-requires-clause-ready : goal.optional-requires-clause-ready
optional-requires-clause-ready c =
    let t = c.args.self.now.types.now in
    let b = c.args.self.now.merged in
    part-ready-on t b c.args.state.now c.params.new.state c.index-held.result.now.result c.in_ok-params.ensures.goes (result-ready c.part_law.ensures.holds_func_parts t c.law.ensures b c.args.state.now c.args.id c.index-held.result.now c.index-held.ensures c.requires.ready)

pub returns-in_err-result-clause-types : goal.returns-in_err-result-clause-types
returns-in_err-result-clause-types c = all-both c.args.state.now c.params.new.state c.optional.new.state c.params.ensures.types c.optional.ensures.types

pub returns-clause-goes : goal.returns-clause-goes
returns-clause-goes c =
    let t = c.args.self.now.types.now in
    let b = c.args.self.now.merged in
    let x = c.index-held.result.now in
    let mid = c.optional.new.state in
    let follows = c.step_law.ensures.follows in
    let xs = params-on c.bringing_law.ensures.good_once c.step_law.ensures.stays_is t b c.params.new.state mid (ty.Func c.args.id) (ready-on t b c.args.state.now c.params.new.state (ty.Func c.args.id) c.in_ok-params.ensures.goes c.requires.ready) c.in_ok-result.ensures.goes x.params c.in_ok-params.params.items c.in_ok-params.ensures.written in
    on-ok c.define_func.result (λ h. goes-both follows t b c.args.state.now mid c.define_func.new.self (goes-both follows t b c.args.state.now c.params.new.state mid c.in_ok-params.ensures.goes c.in_ok-result.ensures.goes)
    (h t x c.law.ensures c.index-held.ensures (func-says t b mid x x.is_async c.in_ok-params.params.items c.as_slice.result.now c.in_ok-result.result refl c.as_slice.ensures.value xs c.in_ok-result.ensures.written))) c.define_func.ensures.goes

pub returns-clause-is : goal.returns-clause-is
returns-clause-is c =
    let t = c.args.self.now.types.now in
    let b = c.args.self.now.merged in
    if-ok (λ i. (how : How) × IsRecordedAt b c.define_func.new.self (ty.Func c.args.id) how i) (IsTypeAt t b c.define_func.new.self (ty.Func c.args.id)) c.define_func.result (λ i h. type-at c.step_law.ensures.stands_recorded t b c.define_func.new.self (ty.Func c.args.id) h.0 i h.1) c.define_func.ensures.recorded

pub returns-clause-types : goal.returns-clause-types
returns-clause-types c = all-both c.args.state.now c.optional.new.state c.define_func.new.self (all-both c.args.state.now c.params.new.state c.optional.new.state c.params.ensures.types c.optional.ensures.types) c.define_func.ensures.types

pub returns-in_err-params-clause-paid : goal.returns-in_err-params-clause-paid
returns-in_err-params-clause-paid c ts covers priced =
    let t = c.args.self.now.types.now in
    exit-answer c.args.self.now.types.now c.args.self.now.merged ts 0 c.args.state.now _ _ c.from_residual.result c.from_residual.ensures.1 (c.in_err-params.ensures.paid ts (params-covers c.weight_law.ensures.covers_mention t ts c.args.id c.index-held.result.now c.index-held.ensures covers) priced)

pub returns-in_err-result-clause-paid : goal.returns-in_err-result-clause-paid
returns-in_err-result-clause-paid c ts covers priced =
    let t = c.args.self.now.types.now in
    let b = c.args.self.now.merged in
    let mention = c.weight_law.ensures.covers_mention in
    exit-then t b ts 0 0 c.args.state.now c.params.new.state _ _ c.from_residual-in_err-result.result c.from_residual-in_err-result.ensures.1
    (c.in_ok-params.ensures.paid ts (params-covers mention t ts c.args.id c.index-held.result.now c.index-held.ensures covers) priced)
    (c.in_err-result.ensures.paid ts (result-covers mention t ts c.args.id c.index-held.result.now c.index-held.ensures covers) (priced-stays b c.args.state.now c.params.new.state c.params.ensures.types priced))

pub returns-clause-paid : goal.returns-clause-paid
returns-clause-paid c ts covers priced =
    let t = c.args.self.now.types.now in
    let b = c.args.self.now.merged in
    let x = c.index-held.result.now in
    let mid = c.optional.new.state in
    let mention = c.weight_law.ensures.covers_mention in
    let first = c.in_ok-params.ensures.paid ts (params-covers mention t ts c.args.id x c.index-held.ensures covers) priced in
    let later = priced-stays b c.args.state.now c.params.new.state c.params.ensures.types priced in
    let second = c.in_ok-result.ensures.paid ts (result-covers mention t ts c.args.id x c.index-held.ensures covers) later in
    then-answer t b ts 0 0 c.args.state.now mid c.define_func.new.self c.define_func.result (pays-both t b ts 0 0 c.args.state.now c.params.new.state mid first second)
    (c.define_func.ensures.paid t x c.index-held.ensures (func-sized t b c.params.new.state x x.is_async c.in_ok-params.params.items c.as_slice.result.now c.in_ok-result.result c.as_slice.ensures.value c.in_ok-params.ensures.written c.in_ok-params.ensures.short c.in_ok-result.ensures.short) ts covers (priced-stays b c.params.new.state mid c.optional.ensures.types later))
