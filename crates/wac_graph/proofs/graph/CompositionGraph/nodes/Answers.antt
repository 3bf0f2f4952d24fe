use Rattle.std.proofs.Common.{map, subst, sym}
use Rattle.slab.specs.Slab.{entries}
use Rattle.wac_graph.specs.Listed.{AreNodes}
use Rattle.wac_graph.specs.private.Left.{with_id}
use Rattle.wac_graph.proofs.ListedLemmas.{nodes_are}
use Rattle.wac_graph.specs.private.Inside.{fields_of}
use Rattle.wac_graph.proofs.graph.CompositionGraph.nodes.Goals as goal

pub returns : goal.returns
returns c =
    subst (λ es. AreNodes c.args.self.now (map with_id es)) (sym c.iter.ensures.rest)
    (subst (λ g. AreNodes g (map with_id (entries c.self.inside.nodes))) c.self.view_is (nodes_are (fields_of c.self.inside) c.self.invariant))
