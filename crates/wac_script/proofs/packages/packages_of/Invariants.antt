use Rattle.wac_script.specs.labels.Things.{things_of}
use Rattle.wac_script.specs.labels.There.{IsPackage}
use Rattle.wac_script.proofs.ListLemmas.{SoFar}
use Rattle.wac_script.proofs.packages.packages_of.Given as goal

abbrev pub invariant-loop-word : goal.invariant-loop-word
invariant-loop-word l = SoFar (λ word id. IsPackage (things_of l.labels) l.graph word id) l.words l.word-index l.packages.items
