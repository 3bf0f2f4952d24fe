use Rattle.wac_script.specs.labels.Things.{things_of}
use Rattle.wac_script.specs.labels.There.{IsPackage}
use Rattle.wac_script.proofs.ListLemmas.{zip-begin, zip-step, zip-end}
use Rattle.wac_script.proofs.ReadLemmas.{exit, exit-memory, zip-none}
use Rattle.wac_script.proofs.packages.packages_of.Goals as goal

pub loop-word-init : goal.loop-word-init
loop-word-init c = zip-begin (λ word id. IsPackage (things_of c.args.labels.now) c.args.graph.now word id) c.args.words.now c.new-packages.result.items c.new-packages.ensures.items

pub loop-word-preserved : goal.loop-word-preserved
loop-word-preserved c = zip-step (λ word id. IsPackage (things_of c.args.labels.now) c.args.graph.now word id) c.args.words.now c.loop-word.word-index _ c.loop-word.packages.items c.push.new.self.items c.in_ok-id.id c.loop-word-test.true c.in_ok-id.ensures c.in_ok-push.ensures.items c.loop-word.invariant

pub returns : goal.returns
returns c = zip-end (λ word id. IsPackage (things_of c.args.labels.now) c.args.graph.now word id) c.args.words.now c.loop-word.word-index c.loop-word.packages.items c.loop-word-test.false c.loop-word.invariant

pub returns-in_err-id : goal.returns-in_err-id
returns-in_err-id c = exit _ _ c.from_residual.result (c.in_err-id.field-0).0 c.from_residual.ensures.1 c.in_err-id.ensures (zip-none (λ word id. IsPackage (things_of c.args.labels.now) c.args.graph.now word id) c.args.words.now c.loop-word.word-index _ c.loop-word-test.true)

pub returns-in_err-push : goal.returns-in_err-push
returns-in_err-push c = exit-memory _ _ c.from_residual-in_err-push.result c.from_residual-in_err-push.ensures.1
