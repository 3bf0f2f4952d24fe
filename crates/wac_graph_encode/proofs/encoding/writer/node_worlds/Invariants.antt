use Rattle.wac_graph_encode.proofs.lemmas.encoding.NeededLemmas.{RootsSoFar}
use Rattle.wac_graph_encode.proofs.encoding.writer.node_worlds.Given as goal

abbrev pub invariant-loop-n : goal.invariant-loop-n
invariant-loop-n l = RootsSoFar l.reader l.define_components l.order l.n-index l.roots.items
