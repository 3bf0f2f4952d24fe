use Rattle.wac_script.specs.Runs.{state_of}
use Rattle.wac_script.specs.lines.Words.{spelled}
use Rattle.std.proofs.Common.{inr}
use Rattle.wac_script.proofs.RunLemmas.{words-misread}
use Rattle.wac_script.proofs.script.Script.run_words.Goals as goal

pub returns-in_default : goal.returns-in_default
returns-in_default c = words-misread c.args.number (spelled c.args.words.now) c.args.bytes.items (state_of c.args.self.now) c.misread.result c.in_default.ensures (c.misread.ensures c.in_default.ensures)

pub returns-in-Ok : goal.returns-in-Ok
returns-in-Ok c = inr (c.in-Some.line, c.in-Some.ensures, c.in-Ok.ensures)

pub returns-in-Err : goal.returns-in-Err
returns-in-Err c = inr (c.in-Some.line, c.in-Some.ensures, c.in-Err.ensures)
