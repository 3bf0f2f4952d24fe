use Rattle.wac_merge_classes.specs.entries.Scopes.{opened_by}
use Rattle.wac_merge_classes.specs.entries.Opening.{AreOpened, left_from}
use Rattle.wac_merge_classes.proofs.entries.scopes.Scopes.new.Given as goal

abbrev pub invariant-loop-position : goal.invariant-loop-position
invariant-loop-position l = AreOpened l.fn.types l.fn.known (opened_by l.fn.kind) l.position l.scopes.keys

abbrev pub decreases-loop-position : goal.decreases-loop-position
decreases-loop-position l = left_from l.fn.types l.scopes.keys l.position
