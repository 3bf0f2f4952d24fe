use Rattle.std.proofs.Common.{ap}
use Rattle.wac_script.specs.labels.Things.{things_of}
use Rattle.wac_script.specs.labels.Values.{IsCase}
use Rattle.wac_types_shapes.specs.shapes.Named.{named_pairs}
use Rattle.wac_script.proofs.ListLemmas.{zip-begin, zip-step, zip-end, pairs-push}
use Rattle.wac_script.proofs.ReadLemmas.{exit, exit-memory, zip-none}
use Rattle.wac_script.proofs.labels.things.Things.cases.Goals as goal

pub loop-word-init : goal.loop-word-init
loop-word-init c = zip-begin (λ word f. IsCase (things_of c.args.self.now) word f.0 f.1) c.args.words.now (named_pairs c.new-cases.result.items) (ap named_pairs c.new-cases.ensures.items)

pub loop-word-preserved : goal.loop-word-preserved
loop-word-preserved c = zip-step (λ word f. IsCase (things_of c.args.self.now) word f.0 f.1) c.args.words.now c.loop-word.word-index _ (named_pairs c.loop-word.cases.items) (named_pairs c.push.new.self.items) (c.in_ok-case.case.0.now, c.in_ok-case.case.1) c.loop-word-test.true c.in_ok-case.ensures (pairs-push c.loop-word.cases.items c.push.new.self.items c.in_ok-case.case c.in_ok-push.ensures.items) c.loop-word.invariant

pub returns : goal.returns
returns c = zip-end (λ word f. IsCase (things_of c.args.self.now) word f.0 f.1) c.args.words.now c.loop-word.word-index (named_pairs c.loop-word.cases.items) c.loop-word-test.false c.loop-word.invariant

pub returns-in_err-case : goal.returns-in_err-case
returns-in_err-case c = exit _ _ c.from_residual.result (c.in_err-case.field-0).0 c.from_residual.ensures.1 c.in_err-case.ensures (λ none. zip-none (λ word f. IsCase (things_of c.args.self.now) word f.0 f.1) c.args.words.now c.loop-word.word-index _ c.loop-word-test.true (λ f. none f.0 f.1))

pub returns-in_err-push : goal.returns-in_err-push
returns-in_err-push c = exit-memory _ _ c.from_residual-in_err-push.result c.from_residual-in_err-push.ensures.1
