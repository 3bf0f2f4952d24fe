use Rattle.std.proofs.Common.{arith, refl}
use Rattle.std.proofs.lemmas.Option.{slice_get-get_or}
use Rattle.wac_types_shapes.specs.declared.shapes.component.«Type».TheVariants as ty
use Rattle.wac_types_collection.specs.collection.Collection.{value_types}
use Rattle.wac_types.specs.private.comparison.Compare.{value_in}
use Rattle.wac_types.proofs.lemmas.comparison.Values.{asks_of}
use Rattle.wac_types.proofs.lemmas.comparison.Agreeing.{handed_on, agree_more, among, differ_at, value_held}
use Rattle.wac_types.proofs.comparison.comparison.Comparison.ask_values.Goals as goal

pub ask_value-requires-clause-first : goal.ask_value-requires-clause-first
ask_value-requires-clause-first c = value_held c.args.self.first.now c.args.vs.now c.loop-i.i _ (slice_get-get_or c.args.vs.now c.loop-i.i _ c.loop-i-test.true) c.requires.first

pub ask_value-requires-clause-second : goal.ask_value-requires-clause-second
ask_value-requires-clause-second c = value_held c.args.self.second.now c.args.ws.now c.loop-i.i _ (slice_get-get_or c.args.ws.now c.loop-i.i _ (omega (arith, c.loop-i-test.true, c.if-vs-ws.false))) c.requires.second

pub returns-in_err-ask_value-clause-mismatch : goal.returns-in_err-ask_value-clause-mismatch
returns-in_err-ask_value-clause-mismatch c = λ is.
    let w = slice_get-get_or c.args.ws.now c.loop-i.i _ (omega (arith, c.loop-i-test.true, c.if-vs-ws.false)) in
    let v = slice_get-get_or c.args.vs.now c.loop-i.i _ c.loop-i-test.true in
    differ_at (value_in c.args.self.first.now) (value_in c.args.self.second.now) c.args.vs.now c.args.ws.now c.loop-i.i _ _ v w
    (c.in_err-ask_value.ensures.mismatch (handed_on c.from_residual.result _ _ c.from_residual.ensures.1 is))

pub loop-i-preserved : goal.loop-i-preserved
loop-i-preserved c =
    let w = slice_get-get_or c.args.ws.now c.loop-i.i _ (omega (arith, c.loop-i-test.true, c.if-vs-ws.false)) in
    let v = slice_get-get_or c.args.vs.now c.loop-i.i _ c.loop-i-test.true in
    agree_more (value_in c.args.self.first.now) (value_in c.args.self.second.now) c.loop-i.i c.args.vs.now c.args.ws.now _ _ v w c.loop-i.invariant
    (asks_of (value_types c.args.vs.now) (value_types c.args.ws.now) (λ P. among P value_types (λ u. ty.Value u) (λ _ _. refl) c.args.vs.now c.loop-i.i _ v) (λ P. among P value_types (λ u. ty.Value u) (λ _ _. refl) c.args.ws.now c.loop-i.i _ w) c.in_ok-ask_value.ensures.asked)
