use Rattle.wac_merge_resources.proofs.lemmas.renaming.RenamingTasks.{did_put_off}
use Rattle.wac_merge_resources.proofs.renaming.renamer.Renamed.perform.Goals as goal

pub returns-in_ok-push-in-Open-clause-did : goal.returns-in_ok-push-in-Open-clause-did
returns-in_ok-push-in-Open-clause-did c =
    did_put_off c.args.renaming.now.types.now c.args.task c.in-Open.id c.index.result.now c.args.self.now c.args.tasks.now.items c.push.new.self.items c.open_parts.new.tasks.items c.open_parts.result
    c.in-Open.is c.index.ensures c.in_ok-push-in-Open.ensures.items c.open_parts.ensures
