use Rattle.wac_merge_agreement.proofs.lemmas.agreement.RestSets.{IsGaining}
use Rattle.wac_merge_agreement.proofs.agreement.rests.put_others.Given as goal

abbrev pub invariant-loop-b : goal.invariant-loop-b
invariant-loop-b l = IsGaining l.own l.more.keys l.initial.others.keys l.others.keys l.b-iterator
