use Rattle.std.proofs.Common.{true, false, refl}
use Rattle.wac_encode_scopes.specs.Contents.{content_of}
use Rattle.wac_encode_scopes.proofs.scope.Scope.reserve_resource.Goals as goal

pub returns-then-merged-clause-same : goal.returns-then-merged-clause-same
returns-then-merged-clause-same c true = c.reserve_resource.ensures.same (content_of c.args.self.now.content)
returns-then-merged-clause-same c false = refl

pub returns-else-merged-clause-same : goal.returns-else-merged-clause-same
returns-else-merged-clause-same c true = refl
returns-else-merged-clause-same c false = c.reserve_resource-else-merged.ensures.same (content_of c.args.self.now.content)
