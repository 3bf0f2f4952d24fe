use Rattle.std.proofs.Common.{◌≢◌, take}
use Rattle.std.specs.List.{AllByRecursion}
use Rattle.wac_script.specs.lines.Words.{spelled}
use Rattle.wac_script.proofs.lines.words.halves.Given as goal

abbrev pub invariant-loop-i : goal.invariant-loop-i
invariant-loop-i l = AllByRecursion (λ word. word ≢ l.mark) (spelled (take l.i l.words))
