use Rattle.std.proofs.Common.{[]}
use Rattle.wac_script.specs.labels.Things.{things_of}
use Rattle.wac_script.specs.labels.Items.{AddsListed}
use Rattle.wac_script.specs.private.Listed.{found_by}
use Rattle.wac_script.proofs.ListLemmas.{walk-begin, walk-step, walk-end, nothing-found}
use Rattle.wac_script.proofs.ReadLemmas.{exit, walk-none}
use Rattle.wac_script.proofs.labels.things.Things.listed.Goals as goal

pub loop-word-init : goal.loop-word-init
loop-word-init c = walk-begin (AddsListed (things_of c.args.self.now)) c.args.words.now (record { uses = []; items = [] }) (found_by c.new-listed.result) (nothing-found c.new-listed.result c.new-listed.ensures.uses c.new-listed.ensures.items)

pub loop-word-preserved : goal.loop-word-preserved
loop-word-preserved c = walk-step (AddsListed (things_of c.args.self.now)) c.args.words.now c.loop-word.word-index _ (record { uses = []; items = [] }) (found_by c.loop-word.listed) (found_by c.push_listed.new.listed) c.loop-word-test.true c.in_ok-push_listed.ensures c.loop-word.invariant

pub returns : goal.returns
returns c = walk-end (AddsListed (things_of c.args.self.now)) c.args.words.now c.loop-word.word-index (record { uses = []; items = [] }) (found_by c.loop-word.listed) c.loop-word-test.false c.loop-word.invariant

pub returns-in_err-push_listed : goal.returns-in_err-push_listed
returns-in_err-push_listed c = exit _ _ c.from_residual.result (c.in_err-push_listed.field-0).0 c.from_residual.ensures.1 c.in_err-push_listed.ensures (λ none uses items. walk-none (AddsListed (things_of c.args.self.now)) c.args.words.now c.loop-word.word-index _ c.loop-word-test.true none (record { uses = []; items = [] }) (record { uses = uses; items = items }))
