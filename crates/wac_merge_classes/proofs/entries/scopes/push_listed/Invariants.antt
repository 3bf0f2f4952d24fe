use Rattle.std.proofs.Common.{◌≡◌, take, Some}
use Rattle.wac_merge_classes.specs.entries.Scopes.{opened, unknown}
use Rattle.wac_merge_classes.specs.entries.Opening.{with_opened}
use Rattle.wac_merge_classes.proofs.entries.scopes.push_listed.Given as goal

abbrev pub invariant-loop-index : goal.invariant-loop-index
invariant-loop-index l = l.scopes.keys ≡ with_opened l.initial.scopes.keys (Some l.parent) (unknown l.known (opened (take l.index l.listed)))
