use Rattle.std.proofs.Common.{arith}
use Rattle.std.proofs.lemmas.Str.Pattern.{split_parts}
use Rattle.wac_script.proofs.lines.words.dotted.Goals as goal

pub returns : goal.returns
returns c = split_parts 46 c.args.word.now c.split_once.result c.split_once.ensures.cases (omega arith)
