use Rattle.std.proofs.Common.{◌≡◌, drop}
use Rattle.std.specs.List.{list_any}
use Rattle.wac_merge_agreement.specs.private.agreement.ReachSteps.{flag_of}
use Rattle.wac_merge_agreement.proofs.agreement.flags.any_of.Given as goal

abbrev pub invariant-loop-number : goal.invariant-loop-number
invariant-loop-number l = list_any (flag_of l.flags) (drop l.number-index l.numbers) ≡ list_any (flag_of l.flags) l.numbers
