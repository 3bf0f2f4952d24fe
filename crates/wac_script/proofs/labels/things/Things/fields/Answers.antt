use Rattle.std.proofs.Common.{ap}
use Rattle.wac_script.specs.labels.Things.{things_of}
use Rattle.wac_script.specs.labels.Values.{IsField}
use Rattle.wac_types_shapes.specs.shapes.Named.{named_pairs}
use Rattle.wac_script.proofs.ListLemmas.{zip-begin, zip-step, zip-end, pairs-push}
use Rattle.wac_script.proofs.ReadLemmas.{exit, exit-memory, zip-none}
use Rattle.wac_script.proofs.NameLemmas.{no-pair, no-field}
use Rattle.wac_script.proofs.labels.things.Things.fields.Goals as goal

pub loop-word-init : goal.loop-word-init
loop-word-init c = zip-begin (λ word f. IsField (things_of c.args.self.now) word f.0 f.1) c.args.words.now (named_pairs c.new-fields.result.items) (ap named_pairs c.new-fields.ensures.items)

pub loop-word-preserved : goal.loop-word-preserved
loop-word-preserved c = zip-step (λ word f. IsField (things_of c.args.self.now) word f.0 f.1) c.args.words.now c.loop-word.word-index _ (named_pairs c.loop-word.fields.items) (named_pairs c.push.new.self.items) (c.in_ok-name.name.now, c.in_ok-value.value) c.loop-word-test.true (c.in_ok-name.ty.now, c.in_ok-name.ensures, c.in_ok-value.ensures) (pairs-push c.loop-word.fields.items c.push.new.self.items (c.in_ok-name.name, c.in_ok-value.value) c.in_ok-push.ensures.items) c.loop-word.invariant

pub returns : goal.returns
returns c = zip-end (λ word f. IsField (things_of c.args.self.now) word f.0 f.1) c.args.words.now c.loop-word.word-index (named_pairs c.loop-word.fields.items) c.loop-word-test.false c.loop-word.invariant

pub returns-in_err-name : goal.returns-in_err-name
returns-in_err-name c = exit _ _ c.from_residual.result (c.in_err-name.field-0).0 c.from_residual.ensures.1 c.in_err-name.ensures (λ lacks. zip-none (λ word f. IsField (things_of c.args.self.now) word f.0 f.1) c.args.words.now c.loop-word.word-index _ c.loop-word-test.true (λ f. no-pair (things_of c.args.self.now) _ lacks f.0 f.1))

pub returns-in_err-value : goal.returns-in_err-value
returns-in_err-value c = exit _ _ c.from_residual-in_err-value.result (c.in_err-value.field-0).0 c.from_residual-in_err-value.ensures.1 c.in_err-value.ensures (λ none. zip-none (λ word f. IsField (things_of c.args.self.now) word f.0 f.1) c.args.words.now c.loop-word.word-index _ c.loop-word-test.true (λ f. no-field (things_of c.args.self.now) _ c.in_ok-name.name.now c.in_ok-name.ty.now c.in_ok-name.ensures none f.0 f.1))

pub returns-in_err-push : goal.returns-in_err-push
returns-in_err-push c = exit-memory _ _ c.from_residual-in_err-push.result c.from_residual-in_err-push.ensures.1
