use Rattle.std.proofs.Common.{◌∷◌}
use Rattle.wac_script.specs.lines.Words.{spelled}
use Rattle.wac_script.proofs.SaidLemmas.{node-call-last}
use Rattle.wac_script.proofs.lines.reading.read_call.Goals as goal

pub returns-in-None : goal.returns-in-None
returns-in-None c = node-call-last (c.args.call.now ∷ spelled c.args.words.now) c.read_node.result c.in_default.ensures c.in-None.ensures c.read_node.ensures
