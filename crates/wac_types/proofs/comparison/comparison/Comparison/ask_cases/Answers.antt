use Rattle.std.proofs.Common.{ap}
use Rattle.wac_types_collection.specs.collection.Collection.{value_types, case_values}
use Rattle.wac_types.specs.private.comparison.Compare.{optional_in, case_in}
use Rattle.wac_types_shapes.proofs.lemmas.shapes.Names.{ne-true, ne-false}
use Rattle.wac_types.proofs.lemmas.comparison.Values.{asks_of}
use Rattle.wac_types.proofs.lemmas.comparison.Agreeing.{handed_on, agree_more, under_name, case_among, differ_at, case_held}
use Rattle.wac_types.proofs.comparison.comparison.Comparison.ask_cases.Goals as goal

pub ask_optional-requires-clause-first : goal.ask_optional-requires-clause-first
ask_optional-requires-clause-first c = case_held c.args.self.first.now c.args.cs.now c.loop-i.i _ _ c.entry_at.ensures c.requires.first

pub ask_optional-requires-clause-second : goal.ask_optional-requires-clause-second
ask_optional-requires-clause-second c = case_held c.args.self.second.now c.args.ds.now c.loop-i.i _ _ c.entry_at-in-loop-i.ensures c.requires.second

pub returns-then-ne-clause-mismatch : goal.returns-then-ne-clause-mismatch
returns-then-ne-clause-mismatch c = λ _. differ_at (case_in c.args.self.first.now) (case_in c.args.self.second.now) c.args.cs.now c.args.ds.now c.loop-i.i _ _ c.entry_at.ensures c.entry_at-in-loop-i.ensures
    (λ e. ne-true _ _ _ c.ne.ensures c.if-ne.true (ap (λ u. u.0) e))

pub returns-in_err-ask_optional-clause-mismatch : goal.returns-in_err-ask_optional-clause-mismatch
returns-in_err-ask_optional-clause-mismatch c = λ is. differ_at (case_in c.args.self.first.now) (case_in c.args.self.second.now) c.args.cs.now c.args.ds.now c.loop-i.i _ _ c.entry_at.ensures c.entry_at-in-loop-i.ensures
    (λ e. c.in_err-ask_optional.ensures.mismatch (handed_on c.from_residual.result _ _ c.from_residual.ensures.1 is) (ap (λ u. u.1) e))

pub loop-i-preserved : goal.loop-i-preserved
loop-i-preserved c =
    let v = c.entry_at.ensures in
    let w = c.entry_at-in-loop-i.ensures in
    agree_more (case_in c.args.self.first.now) (case_in c.args.self.second.now) c.loop-i.i c.args.cs.now c.args.ds.now _ _ v w c.loop-i.invariant
    (under_name c.entry_at.result.0.now c.entry_at-in-loop-i.result.0.now (optional_in c.args.self.first.now c.entry_at.result.1.now) (optional_in c.args.self.second.now c.entry_at-in-loop-i.result.1.now) (ne-false _ _ _ c.ne.ensures c.if-ne.false)
    (asks_of (value_types (case_values c.args.cs.now)) (value_types (case_values c.args.ds.now)) (λ P. case_among P c.args.cs.now c.loop-i.i _ _ v) (λ P. case_among P c.args.ds.now c.loop-i.i _ _ w) c.in_ok-ask_optional.ensures.asked))
