use Rattle.std.proofs.Common.{refl}
use Rattle.wac_script.specs.labels.Cores.{IsMark, no_marks}
use Rattle.wac_script.proofs.ListLemmas.{walk-begin, walk-step, walk-end}
use Rattle.wac_script.proofs.ReadLemmas.{exit, walk-none}
use Rattle.wac_script.proofs.labels.things.Things.marks.Goals as goal

pub loop-word-init : goal.loop-word-init
loop-word-init c = walk-begin IsMark c.args.words.now no_marks no_marks refl

pub loop-word-preserved : goal.loop-word-preserved
loop-word-preserved c = walk-step IsMark c.args.words.now c.loop-word.word-index _ no_marks c.loop-word.marks _ c.loop-word-test.true c.in_ok-marks.ensures c.loop-word.invariant

pub returns : goal.returns
returns c = walk-end IsMark c.args.words.now c.loop-word.word-index no_marks c.loop-word.marks c.loop-word-test.false c.loop-word.invariant

pub returns-in_err-marks : goal.returns-in_err-marks
returns-in_err-marks c = exit _ _ c.from_residual.result (c.in_err-marks.field-0).0 c.from_residual.ensures.1 c.in_err-marks.ensures (λ none. walk-none IsMark c.args.words.now c.loop-word.word-index _ c.loop-word-test.true none no_marks)
