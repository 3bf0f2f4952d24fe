use Rattle.std.proofs.Common.{◌≡◌, true, sym, ◌∙◌}
use Rattle.wac_types_collection.specs.wide.Wide.{is_among}
use Rattle.wac_types_collection.proofs.lemmas.wide.Once.{inserted}
use Rattle.wac_graph_fields.specs.private.EntriesLeft.{entries_of}
use Rattle.wac_graph_fields.proofs.AskingKnown.{was_there, did_meet, did_enter}
use Rattle.wac_graph_fields.proofs.asked.Asking.visit.Goals as goal

pub returns-then-not-branch-clause-did : goal.returns-then-not-branch-clause-did
returns-then-not-branch-clause-did c = λ node.
    let there : is_among c.args.self.now.visited.keys c.args.id ≡ true = was_there (is_among c.args.self.now.visited.keys c.args.id) (sym c.if-not-branch.true ∙ c.in_ok-insert.ensures.added) in
    did_meet c.args.types.now c.args.id node (entries_of c.args.self.now) c.args.self.now.visited.keys c.insert.new.self.keys c.args.tasks.now.items there
    (inserted c.args.self.now.visited.keys c.insert.new.self.keys c.args.id c.in_ok-insert.ensures.keys)

pub returns-clause-did : goal.returns-clause-did
returns-clause-did c = λ node.
    did_enter c.args.types.now c.args.id c.index-interface.result.now c.index-interface.ensures node (entries_of c.args.self.now) c.args.self.now.visited.keys c.insert.new.self.keys c.args.tasks.now.items c.visit_instances.new.tasks.items c.open_used.new.tasks.items c.open_used.result
    (inserted c.args.self.now.visited.keys c.insert.new.self.keys c.args.id c.in_ok-insert.ensures.keys) c.in_ok-visit_instances.ensures c.open_used.ensures
