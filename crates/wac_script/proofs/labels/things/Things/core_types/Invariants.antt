use Rattle.std.proofs.Common.{◌≡◌, map, take}
use Rattle.wac_script.specs.lines.Words.{spelled}
use Rattle.wac_script.specs.labels.Cores.{core_word}
use Rattle.wac_script.proofs.labels.things.Things.core_types.Given as goal

abbrev pub invariant-loop-word : goal.invariant-loop-word
invariant-loop-word l = spelled (take l.word-index l.words) ≡ map core_word l.types.items
