use Rattle.std.proofs.Common.{◌≡◌, drop}
use Rattle.wac_edges.specs.private.Arranging.{with_all}
use Rattle.wac_merge_agreement.proofs.agreement.reach.put_all.Given as goal

abbrev pub invariant-loop-number : goal.invariant-loop-number
invariant-loop-number l = with_all l.numbers.keys (drop l.number-index l.more) ≡ with_all l.initial.numbers.keys l.more
