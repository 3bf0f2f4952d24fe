use Rattle.std.proofs.Common.{sym}
use Rattle.wac_names.proofs.TextFacts.{after-none, before-none}
use Rattle.wac_names.proofs.text.halves.Goals as goal

pub returns-in-None-clause-before : goal.returns-in-None-clause-before
returns-in-None-clause-before c = sym (before-none c.args.at c.args.text.now c.in-None.ensures)

pub returns-in-None-clause-after : goal.returns-in-None-clause-after
returns-in-None-clause-after c = sym (after-none c.args.at c.args.text.now c.in-None.ensures)
