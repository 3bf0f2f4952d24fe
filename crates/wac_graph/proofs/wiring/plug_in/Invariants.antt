use Rattle.std.proofs.Common.{drop}
use Rattle.wac_graph_model.specs.nodes.Graph.{Graph}
use Rattle.wac_graph.specs.private.plugs.Fitting.{node_imports}
use Rattle.wac_graph.specs.plugs.Matching.{exports_of_package}
use Rattle.wac_graph.specs.private.plugs.Pairs.{matches_at}
use Rattle.wac_graph.specs.plugs.Plugging.{Answer, InOrder, Wires, Keeps}
use Rattle.wac_graph.proofs.wiring.plug_in.Given as goal

abbrev pub invariant-loop-i : goal.invariant-loop-i
invariant-loop-i l = record {
  kept : Keeps l.initial.graph l.graph;
  wired : (answer : Answer) (new : Graph) → InOrder (Wires l.node l.socket) l.graph (drop l.i (matches_at (exports_of_package l.fn.graph l.fn.plug) (node_imports l.fn.graph l.socket) l.pairs)) answer new
      → InOrder (Wires l.node l.socket) l.initial.graph (matches_at (exports_of_package l.fn.graph l.fn.plug) (node_imports l.fn.graph l.socket) l.pairs) answer new;
}
