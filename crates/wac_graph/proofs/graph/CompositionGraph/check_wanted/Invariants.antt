use Rattle.wac_encode_faults.specs.private.BoundTypes.{AreBoundTypes}
use Rattle.wac_graph_reader.proofs.lemmas.writing.WantedLemmas.{NoneBefore}
use Rattle.wac_graph.proofs.graph.CompositionGraph.check_wanted.Given as goal

abbrev pub invariant-loop-i : goal.invariant-loop-i
invariant-loop-i l = record {
  none : NoneBefore l.self l.define_components l.i;
  faultless : AreBoundTypes l.self.types l.bound.keys l.faultless;
}
