use Rattle.wac_script.specs.labels.Things.{things_of}
use Rattle.wac_script.specs.labels.Values.{IsField}
use Rattle.wac_types_shapes.specs.shapes.Named.{named_pairs}
use Rattle.wac_script.proofs.ListLemmas.{SoFar}
use Rattle.wac_script.proofs.labels.things.Things.fields.Given as goal

abbrev pub invariant-loop-word : goal.invariant-loop-word
invariant-loop-word l = SoFar (λ word f. IsField (things_of l.self) word f.0 f.1) l.words l.word-index (named_pairs l.fields.items)
