use Rattle.wac_merge_classes.specs.private.entries.Walking.{IsOut}
use Rattle.wac_merge_classes.proofs.entries.naming.called.Given as goal

abbrev pub invariant-walk : goal.invariant-walk
invariant-walk l = IsOut l.types l.around.scopes.now l.scope l.out l.position l.resource

abbrev pub decreases-walk : goal.decreases-walk
decreases-walk l = l.position
