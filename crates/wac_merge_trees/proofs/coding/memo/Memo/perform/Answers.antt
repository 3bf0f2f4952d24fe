use Rattle.std.proofs.Common.{sym, ◌∙◌}
use Rattle.wac_merge_trees.proofs.lemmas.coding.CodingTasks.{did_put_off, only_ready}
use Rattle.wac_merge_trees.proofs.coding.memo.Memo.perform.Goals as goal

pub close-requires-clause-ready : goal.close-requires-clause-ready
close-requires-clause-ready c =
    only_ready c.args.source.now.types.now c.args.self.now c.in-Open.id c.index-definition.result.now c.in-Some-only_part.value c.index-definition.ensures (sym c.only_part.ensures ∙ c.in-Some-only_part.is) (c.is_ready.ensures.0 c.if-is_ready.true)

pub returns-in_ok-push-in-Open-clause-did : goal.returns-in_ok-push-in-Open-clause-did
returns-in_ok-push-in-Open-clause-did c =
    did_put_off c.args.source.now.types.now c.args.task c.in-Open.id c.index-definition.result.now c.args.self.now c.args.tasks.now.items c.push.new.self.items c.open_parts.new.tasks.items c.open_parts.result
    c.in-Open.is c.index-definition.ensures c.in_ok-push-in-Open.ensures.items c.open_parts.ensures
