use Rattle.std.proofs.Common.{sym, subst}
use Rattle.std.specs.Prelude.{OnOk}
use Rattle.wac_graph_fields.specs.declared.asked.Task.{Task}
use Rattle.wac_graph_fields.specs.private.EntriesLeft.{entries_of, Did}
use Rattle.wac_graph_fields.proofs.AskingKnown.{did_divide}
use Rattle.wac_graph_fields.proofs.asked.Asking.perform.Goals as goal

pub returns-in-Open-clause-did : goal.returns-in-Open-clause-did
returns-in-Open-clause-did c =
    let self = c.args.self.now in
    subst (λ (t : Task). OnOk c.open.result (Did c.args.types.now c.args.node t (entries_of self) (entries_of self) self.visited.keys self.visited.keys c.args.tasks.now.items c.open.new.tasks.items)) (sym c.in-Open.is)
    (did_divide c.args.types.now c.in-Open.id c.args.node (entries_of self) self.visited.keys c.args.tasks.now.items c.open.new.tasks.items c.open.result c.open.ensures)
