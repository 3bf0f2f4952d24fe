use Rattle.wac_script.specs.labels.Things.{things_of, cores_of}
use Rattle.wac_script.specs.labels.Cores.{AddsExport}
use Rattle.wac_script.proofs.ListLemmas.{Reached}
use Rattle.wac_script.proofs.ReadLemmas.{Left}
use Rattle.wac_script.proofs.labels.things.Things.module.Given as goal

abbrev pub invariant-loop-word : goal.invariant-loop-word
invariant-loop-word l = record {
  reached : Reached (AddsExport (things_of l.self) (cores_of l.self)) l.exports l.word-index l.initial.ty l.ty;
  left : Left (AddsExport (things_of l.self) (cores_of l.self)) l.exports l.word-index l.initial.ty l.ty;
}
