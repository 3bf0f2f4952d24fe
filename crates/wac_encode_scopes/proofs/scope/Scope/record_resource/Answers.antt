use Rattle.wac_encode_stacks.specs.Scopes.{bind_at}
use Rattle.wac_encode_scopes.specs.Books.{where_of}
use Rattle.wac_encode_scopes.proofs.Stepped.{on-ok, merged-changes, graph-changes}
use Rattle.wac_encode_scopes.proofs.scope.Scope.record_resource.Goals as goal

pub returns-then-merged-clause-recorded : goal.returns-then-merged-clause-recorded
returns-then-merged-clause-recorded c = on-ok c.record_resource.result (merged-changes c.args.merged (bind_at c.args.resource (where_of c.args.place)) c.args.self.now c.record_resource.new.self c.if-merged.true) c.record_resource.ensures.recorded

pub returns-else-merged-clause-recorded : goal.returns-else-merged-clause-recorded
returns-else-merged-clause-recorded c = on-ok c.record_resource-else-merged.result (graph-changes c.args.merged (bind_at c.args.resource (where_of c.args.place)) c.args.self.now c.record_resource-else-merged.new.self c.if-merged.false) c.record_resource-else-merged.ensures.recorded
