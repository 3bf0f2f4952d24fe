use Rattle.std.proofs.Common.{ap, sym, ◌∙◌, Some}
use Rattle.wac_graph_fields.specs.private.EntriesLeft.{entries_of}
use Rattle.wac_graph_fields.proofs.AskingKnown.{did_close, did_pass}
use Rattle.wac_graph_fields.proofs.asked.Asking.close.Goals as goal

pub returns-in_default-clause-did : goal.returns-in_default-clause-did
returns-in_default-clause-did c = λ left. did_pass c.args.types.now c.args.id c.index.result.now c.index.ensures c.args.node (entries_of c.args.self.now) c.args.self.now.visited.keys left c.in_default.is

pub returns-clause-did : goal.returns-clause-did
returns-clause-did c = λ left.
    did_close c.args.types.now c.args.id c.index.result.now c.index.ensures c.args.node c.as_str.result.now (entries_of c.args.self.now) (entries_of c.add.new.self) c.args.self.now.visited.keys c.add.new.self.visited.keys left c.add.result (c.in-Some.is ∙ ap Some (sym c.as_str.ensures)) c.add.ensures.entries c.add.ensures.visited
