use Rattle.std.specs.Str.Iter.{split_whitespace_rest}
use Rattle.wac_script.specs.lines.Words.{spelled}
use Rattle.wac_script.proofs.WordLemmas.{WordsSoFar}
use Rattle.wac_script.proofs.lines.words.words_of.Given as goal

abbrev pub invariant-loop-word : goal.invariant-loop-word
invariant-loop-word l = WordsSoFar l.line (split_whitespace_rest l.word-iterator) (spelled l.words.items)
