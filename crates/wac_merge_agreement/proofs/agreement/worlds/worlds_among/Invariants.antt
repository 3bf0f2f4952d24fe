use Rattle.wac_merge_agreement.specs.private.agreement.Worlds.{AreAmong}
use Rattle.wac_merge_agreement.proofs.agreement.worlds.worlds_among.Given as goal

abbrev pub invariant-loop-i : goal.invariant-loop-i
invariant-loop-i l = AreAmong l.found l.worlds.items
