use Rattle.std.proofs.Common.{length, ap, arith, length-append}
use Rattle.wac_edges.proofs.lemmas.cycles.StepLemmas.{empty_push}
use Rattle.wac_edges.proofs.cycles.cycles.empty_sets.Goals as goal

pub loop-init : goal.loop-init
loop-init c = record { counted = ap length c.new-sets.ensures.items; empty = rw c.new-sets.ensures.items (λ a b h. cc h.1) }

pub loop-preserved : goal.loop-preserved
loop-preserved c = record {
  counted = rw c.in_ok-push.ensures.items (rw length-append (omega (arith, c.loop.invariant.counted)));
  empty = rw c.in_ok-push.ensures.items (empty_push c.loop.sets.items c.new.result c.new.ensures.empty c.loop.invariant.empty);
}

pub returns-clause-counted : goal.returns-clause-counted
returns-clause-counted c = omega (arith, c.loop.invariant.counted)
