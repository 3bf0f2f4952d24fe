use Rattle.wac_types.proofs.lemmas.comparison.Answering.{definitions_differ}
use Rattle.wac_types.proofs.comparison.comparison.Comparison.answer_value.Goals as goal

pub returns-in-Defined-Defined-clause-mismatch : goal.returns-in-Defined-Defined-clause-mismatch
returns-in-Defined-Defined-clause-mismatch c = λ is. rw (c.in-Defined-Defined.is-0, c.in-Defined-Defined.is-1)
    (definitions_differ c.args.self.first.now c.args.self.second.now c.law.ensures c.law-2.ensures _ _ _ _ c.index.ensures c.index-in-Defined-Defined.ensures (c.ask_defined.ensures.mismatch is))
