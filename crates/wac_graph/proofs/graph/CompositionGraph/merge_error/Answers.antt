use Rattle.std.proofs.Common.{subst}
use Rattle.wac_merge.specs.Aggregate.{IsFault}
use Rattle.wac_graph_model.specs.nodes.Entries.{asked_entries, to_merge}
use Rattle.wac_graph_encode.proofs.lemmas.places.MergeLemmas.{circle_refused}
use Rattle.wac_graph.proofs.graph.CompositionGraph.merge_error.Goals as goal

pub returns-in-UseEachOther : goal.returns-in-UseEachOther
returns-in-UseEachOther c = λ o.
    let g = c.args.self.now in
    circle_refused g o c.requires.acyclic c.requires.apart c.in-UseEachOther.import (subst (λ f. IsFault g.types (to_merge (asked_entries g)) f) c.in-UseEachOther.is c.requires.fault)
