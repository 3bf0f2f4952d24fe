use Rattle.wac_script.proofs.WordLemmas.{stripped}
use Rattle.wac_script.proofs.lines.words.after_prefix.Goals as goal

pub returns : goal.returns
returns c = stripped c.args.prefix.now c.args.word.now c.strip_prefix.result c.strip_prefix.ensures.cases
