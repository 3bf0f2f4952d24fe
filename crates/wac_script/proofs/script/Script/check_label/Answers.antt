use Rattle.std.proofs.Common.{inr}
use Rattle.wac_script.proofs.script.Script.check_label.Goals as goal

pub returns-then-contains : goal.returns-then-contains
returns-then-contains c = inr (c.contains.ensures.0 c.if-contains.true)
