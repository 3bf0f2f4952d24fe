use Rattle.wac_script.specs.lines.Words.{spelled}
use Rattle.wac_script.proofs.SaidLemmas.{no-node-call}
use Rattle.wac_script.proofs.lines.reading.read_node.Goals as goal

pub returns-in_default : goal.returns-in_default
returns-in_default c = no-node-call c.args.call.now (spelled c.args.words.now) c.in_default.not-package c.in_default.not-new c.in_default.not-alias c.in_default.not-import c.in_default.not-define
