use Rattle.std.proofs.Common.{ap, refl}
use Rattle.wac_types_shapes.specs.declared.shapes.component.«Type».TheVariants as ty
use Rattle.wac_types_collection.specs.collection.Collection.{value_types, seconds}
use Rattle.wac_types.specs.private.comparison.Compare.{value_in, entry_in}
use Rattle.wac_types_shapes.proofs.lemmas.shapes.Names.{ne-true, ne-false}
use Rattle.wac_types.proofs.lemmas.comparison.Values.{asks_of}
use Rattle.wac_types.proofs.lemmas.comparison.Agreeing.{handed_on, agree_more, under_name, among, differ_at, field_held}
use Rattle.wac_types.proofs.comparison.comparison.Comparison.ask_named.Goals as goal

pub ask_value-requires-clause-first : goal.ask_value-requires-clause-first
ask_value-requires-clause-first c = field_held c.args.self.first.now c.args.vs.now c.loop-i.i _ _ c.entry_at.ensures c.requires.first

pub ask_value-requires-clause-second : goal.ask_value-requires-clause-second
ask_value-requires-clause-second c = field_held c.args.self.second.now c.args.ws.now c.loop-i.i _ _ c.entry_at-in-loop-i.ensures c.requires.second

pub returns-then-ne-clause-mismatch : goal.returns-then-ne-clause-mismatch
returns-then-ne-clause-mismatch c = λ _. differ_at (entry_in c.args.self.first.now) (entry_in c.args.self.second.now) c.args.vs.now c.args.ws.now c.loop-i.i _ _ c.entry_at.ensures c.entry_at-in-loop-i.ensures
    (λ e. ne-true _ _ _ c.ne.ensures c.if-ne.true (ap (λ u. u.0) e))

pub returns-in_err-ask_value-clause-mismatch : goal.returns-in_err-ask_value-clause-mismatch
returns-in_err-ask_value-clause-mismatch c = λ is. differ_at (entry_in c.args.self.first.now) (entry_in c.args.self.second.now) c.args.vs.now c.args.ws.now c.loop-i.i _ _ c.entry_at.ensures c.entry_at-in-loop-i.ensures
    (λ e. c.in_err-ask_value.ensures.mismatch (handed_on c.from_residual.result _ _ c.from_residual.ensures.1 is) (ap (λ u. u.1) e))

pub loop-i-preserved : goal.loop-i-preserved
loop-i-preserved c =
    let v = c.entry_at.ensures in
    let w = c.entry_at-in-loop-i.ensures in
    agree_more (entry_in c.args.self.first.now) (entry_in c.args.self.second.now) c.loop-i.i c.args.vs.now c.args.ws.now _ _ v w c.loop-i.invariant
    (under_name c.entry_at.result.0.now c.entry_at-in-loop-i.result.0.now (value_in c.args.self.first.now c.entry_at.result.1.now) (value_in c.args.self.second.now c.entry_at-in-loop-i.result.1.now) (ne-false _ _ _ c.ne.ensures c.if-ne.false)
    (asks_of (value_types (seconds c.args.vs.now)) (value_types (seconds c.args.ws.now)) (λ P. among P (λ es. value_types (seconds es)) (λ e. ty.Value e.1) (λ _ _. refl) c.args.vs.now c.loop-i.i _ v) (λ P. among P (λ es. value_types (seconds es)) (λ e. ty.Value e.1) (λ _ _. refl) c.args.ws.now c.loop-i.i _ w) c.in_ok-ask_value.ensures.asked))
