use Rattle.wac_script.specs.labels.Things.{things_of}
use Rattle.wac_script.specs.labels.Values.{IsValue}
use Rattle.wac_script.proofs.ListLemmas.{SoFar}
use Rattle.wac_script.proofs.labels.things.Things.values.Given as goal

abbrev pub invariant-loop-word : goal.invariant-loop-word
invariant-loop-word l = SoFar (λ word v. IsValue (things_of l.self) word v) l.words l.word-index l.values.items
