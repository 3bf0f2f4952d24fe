use Rattle.wac_script.specs.labels.Things.{things_of, cores_of}
use Rattle.wac_script.specs.labels.Cores.{TakesImport}
use Rattle.wac_script.specs.private.Listed.{importing}
use Rattle.wac_script.proofs.ListLemmas.{Reached}
use Rattle.wac_script.proofs.ReadLemmas.{Left}
use Rattle.wac_script.proofs.labels.things.Things.add_imports.Given as goal

abbrev pub invariant-loop-word : goal.invariant-loop-word
invariant-loop-word l = record {
  reached : Reached (TakesImport (things_of l.self) (cores_of l.self)) l.words l.word-index (importing l.initial.source l.initial.ty) (importing l.source l.ty);
  left : Left (TakesImport (things_of l.self) (cores_of l.self)) l.words l.word-index (importing l.initial.source l.initial.ty) (importing l.source l.ty);
}
