use Rattle.std.proofs.Common.{drop}
use Rattle.wac_types_shapes.specs.shapes.Named.{names_of}
use Rattle.wac_types_collection.specs.collection.Collection.{world_exports}
use Rattle.wac_graph_model.specs.nodes.Graph.{Graph}
use Rattle.wac_graph.specs.plugs.Plugging.{Answer, InOrder, PassesOn, Keeps}
use Rattle.wac_graph.proofs.wiring.pass_on_all.Given as goal

abbrev pub invariant-loop-i : goal.invariant-loop-i
invariant-loop-i l = record {
  kept : Keeps l.fn.graph l.graph;
  passed : (answer : Answer) (new : Graph) → InOrder (PassesOn l.socket) l.graph (drop l.i (names_of (world_exports l.fn.graph.types l.world))) answer new
      → InOrder (PassesOn l.socket) l.fn.graph (names_of (world_exports l.fn.graph.types l.world)) answer new;
}
