use Rattle.std.proofs.Common.{◌≡◌, ap, sym, subst, map}
use Rattle.std.specs.List.{AllByRecursion}
use Rattle.wac_types_collection.specs.collection.Collection.{Collection}
use Rattle.wac_graph_model.specs.nodes.Asked.{Entry}
use Rattle.wac_graph_fields.specs.private.EntriesLeft.{entry_view, IsHeldKind}
use Rattle.wac_graph_model.specs.nodes.Graph.{Graph}
use Rattle.wac_graph_encode.proofs.lemmas.places.MergeLemmas.{all_index}
use Rattle.wac_graph.proofs.graph.CompositionGraph.aggregated.Goals as goal

pub aggregate-requires : goal.aggregate-requires
aggregate-requires c =
    let types : c.self.inside.types ≡ c.args.self.now.types = ap (λ (h : Graph). h.types) c.self.view_is in
    all_index (λ (e : Entry). IsHeldKind c.self.inside.types e.kind) entry_view c.args.entries.now c.loop-i.i _ c.loop-i-test.true
    (subst (λ (t : Collection). AllByRecursion (λ (e : Entry). IsHeldKind t e.kind) (map entry_view c.args.entries.now)) (sym types) c.requires)
