use Rattle.std.proofs.Common.{arith, refl}
use Rattle.std.proofs.lemmas.Option.{slice_get_read}
use Rattle.wac_types.proofs.lemmas.comparison.Comparing.{compares_next, compares_last}
use Rattle.wac_types.proofs.checker.SubtypeChecker.is_subtype.Goals as goal

pub loop-next-preserved : goal.loop-next-preserved
loop-next-preserved c =
    let at = slice_get_read c.loop-next.asked.questions.items _ c.loop-next.next c.index-question.result.now refl (omega (arith, c.len.ensures, c.loop-next-test.true)) c.index-question.ensures in
    compares_next c.args.at.now c.args.bt.now c.args.a c.args.b c.loop-next.asked c.answer_question.new.asked c.loop-next.next _ at c.loop-next.invariant c.in_ok-answer_question.ensures.settled

pub returns-clause-subtype : goal.returns-clause-subtype
returns-clause-subtype c = compares_last c.args.at.now c.args.bt.now c.args.a c.args.b c.loop-next.asked c.loop-next.next (omega (arith, c.len.ensures, c.loop-next-test.false)) c.loop-next.invariant
