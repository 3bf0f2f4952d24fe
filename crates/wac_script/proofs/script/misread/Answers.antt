use Rattle.std.proofs.Common.{sym, subst, ◌∙◌}
use Rattle.std.proofs.lemmas.Bool.{false≢true}
use Rattle.wac_script.specs.lines.Words.{spelled}
use Rattle.wac_script.specs.lines.Called.{IsCall, IsCalled}
use Rattle.wac_script.proofs.RunLemmas.{some-words}
use Rattle.wac_script.proofs.script.misread.Goals as goal

pub returns-in_default : goal.returns-in_default
returns-in_default c = λ none. tt

pub returns-then-is_call : goal.returns-then-is_call
returns-then-is_call c = λ none. (subst (IsCalled (spelled c.args.words.now)) (sym c.in-Ok.ensures.ok) (c.called-call.ensures (some-words (spelled c.args.words.now) none)), subst IsCall (sym c.in-Ok.ensures.ok) (c.is_call.ensures.0 c.if-is_call.true))

pub returns-else-is_call : goal.returns-else-is_call
returns-else-is_call c = λ none. (subst (IsCalled (spelled c.args.words.now)) (sym c.in-Ok.ensures.ok) (c.called-call.ensures (some-words (spelled c.args.words.now) none)), λ is. false≢true (sym c.if-is_call.false ∙ c.is_call.ensures.1 (subst IsCall c.in-Ok.ensures.ok is)))
