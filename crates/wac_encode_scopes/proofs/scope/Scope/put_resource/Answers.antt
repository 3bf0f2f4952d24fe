use Rattle.wac_encode_stacks.specs.Scopes.{bind_at}
use Rattle.wac_encode_scopes.specs.Books.{where_of}
use Rattle.wac_encode_scopes.proofs.Stepped.{merged-changes, graph-changes}
use Rattle.wac_encode_scopes.proofs.scope.Scope.put_resource.Goals as goal

pub returns-then-merged-clause-recorded : goal.returns-then-merged-clause-recorded
returns-then-merged-clause-recorded c = merged-changes c.args.merged (bind_at c.args.resource (where_of c.args.place)) c.args.self.now c.put_resource.new.self c.if-merged.true c.put_resource.ensures

pub returns-else-merged-clause-recorded : goal.returns-else-merged-clause-recorded
returns-else-merged-clause-recorded c = graph-changes c.args.merged (bind_at c.args.resource (where_of c.args.place)) c.args.self.now c.put_resource-else-merged.new.self c.if-merged.false c.put_resource-else-merged.ensures
