use Rattle.std.proofs.Common.{◌≡◌, map, take}
use Rattle.wac_graph_model.specs.nodes.Entries.{to_merge}
use Rattle.wac_graph_fields.specs.private.EntriesLeft.{entry_view}
use Rattle.wac_graph.proofs.graph.CompositionGraph.aggregated.Given as goal

abbrev pub invariant-loop-i : goal.invariant-loop-i
invariant-loop-i l = l.aggregator.entries ≡ to_merge (map entry_view (take l.i l.entries))
