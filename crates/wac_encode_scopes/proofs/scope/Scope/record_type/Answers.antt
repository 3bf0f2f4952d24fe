use Rattle.wac_encode_stacks.specs.Scopes.{index_at}
use Rattle.wac_encode_scopes.specs.Books.{how_of}
use Rattle.wac_encode_scopes.proofs.Stepped.{on-ok, merged-changes, graph-changes}
use Rattle.wac_encode_scopes.proofs.scope.Scope.record_type.Goals as goal

pub returns-then-merged-clause-recorded : goal.returns-then-merged-clause-recorded
returns-then-merged-clause-recorded c = on-ok c.record_type.result (merged-changes c.args.merged (index_at c.args.ty (how_of c.args.how) c.args.index) c.args.self.now c.record_type.new.self c.if-merged.true) c.record_type.ensures.recorded

pub returns-else-merged-clause-recorded : goal.returns-else-merged-clause-recorded
returns-else-merged-clause-recorded c = on-ok c.record_type-else-merged.result (graph-changes c.args.merged (index_at c.args.ty (how_of c.args.how) c.args.index) c.args.self.now c.record_type-else-merged.new.self c.if-merged.false) c.record_type-else-merged.ensures.recorded
