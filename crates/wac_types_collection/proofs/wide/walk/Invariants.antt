use Rattle.std.proofs.Common.{◌+◌, ◌-◌, ◌*◌, suc, length, reverse}
use Rattle.wac_types_collection.proofs.lemmas.wide.WideWalk.{IsWalk, most}
use Rattle.wac_types_collection.proofs.wide.walk.Given as goal

abbrev pub invariant-loop-id : goal.invariant-loop-id
invariant-loop-id l = IsWalk l.fn.types l.initial.used.keys (reverse l.initial.pending.items) l.used.keys l.seen.keys (reverse l.pending.items)

abbrev pub decreases-loop-id : goal.decreases-loop-id
decreases-loop-id l = (length l.fn.types.interfaces - length l.seen.keys) * suc (most l.fn.types.interfaces) + length l.pending.items
