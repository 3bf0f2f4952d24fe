use Rattle.wac_script.specs.lines.Words.{spelled}
use Rattle.wac_script.proofs.SaidLemmas.{no-type-call}
use Rattle.wac_script.proofs.lines.reading.read_type.Goals as goal

pub returns-in_default : goal.returns-in_default
returns-in_default c = no-type-call c.args.call.now (spelled c.args.words.now) c.in_default.not-resource c.in_default.not-func c.in_default.not-async c.in_default.not-interface c.in_default.not-world c.in_default.not-module
