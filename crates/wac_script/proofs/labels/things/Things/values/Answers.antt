use Rattle.wac_script.specs.labels.Things.{things_of}
use Rattle.wac_script.specs.labels.Values.{IsValue}
use Rattle.wac_script.proofs.ListLemmas.{zip-begin, zip-step, zip-end}
use Rattle.wac_script.proofs.ReadLemmas.{exit, exit-memory, zip-none}
use Rattle.wac_script.proofs.labels.things.Things.values.Goals as goal

pub loop-word-init : goal.loop-word-init
loop-word-init c = zip-begin (λ word v. IsValue (things_of c.args.self.now) word v) c.args.words.now c.new-values.result.items c.new-values.ensures.items

pub loop-word-preserved : goal.loop-word-preserved
loop-word-preserved c = zip-step (λ word v. IsValue (things_of c.args.self.now) word v) c.args.words.now c.loop-word.word-index _ c.loop-word.values.items c.push.new.self.items c.in_ok-value.value c.loop-word-test.true c.in_ok-value.ensures c.in_ok-push.ensures.items c.loop-word.invariant

pub returns : goal.returns
returns c = zip-end (λ word v. IsValue (things_of c.args.self.now) word v) c.args.words.now c.loop-word.word-index c.loop-word.values.items c.loop-word-test.false c.loop-word.invariant

pub returns-in_err-value : goal.returns-in_err-value
returns-in_err-value c = exit _ _ c.from_residual.result (c.in_err-value.field-0).0 c.from_residual.ensures.1 c.in_err-value.ensures (zip-none (λ word v. IsValue (things_of c.args.self.now) word v) c.args.words.now c.loop-word.word-index _ c.loop-word-test.true)

pub returns-in_err-push : goal.returns-in_err-push
returns-in_err-push c = exit-memory _ _ c.from_residual-in_err-push.result c.from_residual-in_err-push.ensures.1
