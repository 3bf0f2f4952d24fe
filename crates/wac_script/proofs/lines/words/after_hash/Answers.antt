use Rattle.std.proofs.Common.{arith}
use Rattle.std.proofs.lemmas.Str.Pattern.{strip_prefix_char}
use Rattle.wac_script.proofs.WordLemmas.{hashed}
use Rattle.wac_script.proofs.lines.words.after_hash.Goals as goal

pub returns : goal.returns
returns c = hashed c.args.word.now c.strip_prefix.result (strip_prefix_char 35 c.args.word.now c.strip_prefix.result c.strip_prefix.ensures.cases (omega arith))
