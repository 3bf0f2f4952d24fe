-- Outer names have one answer.
use Rattle.wac_names.proofs.lemmas.validation.AnswerFacts.{has_one_answer}
use Rattle.wac_names.proofs.validation.outer.one_answer.Goals as goal

pub returns : goal.returns
returns c = has_one_answer
