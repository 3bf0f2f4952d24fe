use Rattle.std.proofs.Common.{sym, rules}
use Rattle.wac_names.specs.Reading.{version_piece}
use Rattle.wac_names.proofs.TextFacts.{before-none}
use Rattle.wac_names.proofs.text.versioned.Goals as goal

pub returns-in-Some-clause-after : goal.returns-in-Some-clause-after
unfolding version_piece
returns-in-Some-clause-after c = search rules

pub returns-in-None-clause-before : goal.returns-in-None-clause-before
returns-in-None-clause-before c = sym (before-none 64 c.args.text.now c.in-None.ensures)

pub returns-in-None-clause-after : goal.returns-in-None-clause-after
unfolding version_piece
returns-in-None-clause-after c = search rules
