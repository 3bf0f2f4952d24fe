use Rattle.wac_script.specs.labels.Cores.{IsMark, no_marks}
use Rattle.wac_script.proofs.ListLemmas.{Reached}
use Rattle.wac_script.proofs.labels.things.Things.marks.Given as goal

abbrev pub invariant-loop-word : goal.invariant-loop-word
invariant-loop-word l = Reached IsMark l.words l.word-index no_marks l.marks
