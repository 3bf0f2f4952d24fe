use Rattle.std.proofs.Common.{◌∙◌, ap}
use Rattle.std.specs.Str.Iter.{split_whitespace_rest}
use Rattle.wac_script.specs.lines.Words.{spelled}
use Rattle.wac_script.proofs.WordLemmas.{words-begin, words-next, words-comment, words-end}
use Rattle.wac_script.proofs.lines.words.words_of.Goals as goal

pub loop-word-init : goal.loop-word-init
loop-word-init c = words-begin c.args.line.now (split_whitespace_rest c.into_iter-word-iterator.result) (spelled c.new-words.result.items) (ap split_whitespace_rest c.into_iter-word-iterator.ensures.into_iter_gives ∙ c.split_whitespace-word-items.ensures.rest) (ap spelled c.new-words.ensures.items)

pub loop-word-preserved : goal.loop-word-preserved
loop-word-preserved c = words-next c.args.line.now c.loop-word.word-iterator c.next.new.self c.in-Some.word c.loop-word.words.items c.push.new.self.items c.in-Some.ensures.steps c.in_default.ensures c.in_ok-push.ensures.items c.loop-word.invariant

pub returns-in-Some-after_hash : goal.returns-in-Some-after_hash
returns-in-Some-after_hash c = words-comment c.args.line.now c.loop-word.word-iterator c.next.new.self c.in-Some.word c.loop-word.words.items c.in-Some.ensures.steps (c.in-Some-after_hash.field-0.now, c.in-Some-after_hash.ensures) c.loop-word.invariant

pub returns : goal.returns
returns c = words-end c.args.line.now (split_whitespace_rest c.loop-word.word-iterator) (spelled c.loop-word.words.items) c.in-None.ensures.steps.1 c.loop-word.invariant
