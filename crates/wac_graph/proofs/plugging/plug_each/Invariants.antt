use Rattle.std.proofs.Common.{drop}
use Rattle.wac_graph_model.specs.nodes.Graph.{Graph}
use Rattle.wac_graph.specs.plugs.Plugging.{Answer, InOrder, PlugsIn, Keeps}
use Rattle.wac_graph.specs.private.plugs.Ready.{plugs_at}
use Rattle.wac_graph.proofs.plugging.plug_each.Given as goal

abbrev pub invariant-loop-i : goal.invariant-loop-i
invariant-loop-i l = record {
  kept : Keeps l.fn.graph l.graph;
  plugged : (answer : Answer) (new : Graph) → InOrder (PlugsIn l.node) l.graph (drop l.i (plugs_at l.fn.graph l.fn.socket l.wired)) answer new
      → InOrder (PlugsIn l.node) l.fn.graph (plugs_at l.fn.graph l.fn.socket l.wired) answer new;
}
