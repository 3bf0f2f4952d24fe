use Rattle.std.proofs.Common.{reverse}
use Rattle.wac_encode_faults.proofs.UseWalk.{IsUseWalk, weigh}
use Rattle.wac_encode_faults.proofs.uses.reach_uses.Given as goal

abbrev pub invariant-loop-step : goal.invariant-loop-step
invariant-loop-step l = IsUseWalk l.fn.types l.fn.roots.keys l.done.keys (reverse l.pending.items)

abbrev pub decreases-loop-step : goal.decreases-loop-step
decreases-loop-step l = weigh l.fn.types (reverse l.pending.items)
