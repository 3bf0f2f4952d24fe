use Rattle.wac_script.specs.lines.Words.{spelled}
use Rattle.wac_script.proofs.SaidLemmas.{labelled-line, gives-none, plain-unsaid}
use Rattle.wac_script.proofs.lines.reading.read_some.Goals as goal

pub returns-in-Some : goal.returns-in-Some
returns-in-Some c = labelled-line c.args.first.now (spelled c.args.rest.now) (spelled c.in-Some.made.now) c.read_made.result c.in-Some.ensures c.read_made.ensures

pub returns-in-Some-read_change : goal.returns-in-Some-read_change
returns-in-Some-read_change c = (gives-none c.args.first.now (spelled c.args.rest.now) c.in_default.ensures, c.in-Some-read_change.ensures)

pub returns-in-None : goal.returns-in-None
returns-in-None c = plain-unsaid c.args.first.now (spelled c.args.rest.now) c.in_default.ensures c.in-None.ensures
