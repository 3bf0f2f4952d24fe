use Rattle.std.proofs.Common.{◌∙◌, ap, Err}
use Rattle.wac_graph.proofs.TwiceLemmas.{that_name}
use Rattle.wac_graph.proofs.twice.note.Goals as goal

pub returns-in-Err-NameTwice : goal.returns-in-Err-NameTwice
returns-in-Err-NameTwice c = that_name c.args.found.now c.args.name.now c.name_twice.result c.law.ensures (c.insert.ensures.name_twice.0 (c.in-Err-NameTwice.is ∙ ap Err c.in-Err-NameTwice.field-0-is)) c.name_twice.ensures
