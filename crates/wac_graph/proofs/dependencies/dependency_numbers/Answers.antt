use Rattle.std.proofs.Common.{ap}
use Rattle.wac_edges.specs.Ends.{Walked}
use Rattle.wac_graph.proofs.DependencyLemmas.{gather_next, gather_start, gathered}
use Rattle.wac_graph.proofs.dependencies.dependency_numbers.Goals as goal

pub loop-edge-init : goal.loop-edge-init
loop-edge-init c = (
  tt,
  tt,
  gather_start c.args.edges.now c.args.id c.walk-edge-items.result.left c.into_iter-edge-iterator.result.left c.new-numbers.result.keys (ap (λ (w : Walked). w.left) c.into_iter-edge-iterator.ensures.into_iter_gives) c.walk-edge-items.ensures.edges c.new-numbers.ensures.empty,
)

pub loop-edge-preserved : goal.loop-edge-preserved
loop-edge-preserved c = (
  tt,
  tt,
  gather_next c.args.edges.now c.args.id c.in-Some.edge c.next.new.self.left c.loop-edge.edge-iterator.left c.loop-edge.numbers.keys c.note_dependency.new.numbers.keys c.in-Some.ensures.steps.0 c.loop-edge.invariant.2 c.in_ok-note_dependency.ensures.dependency
      c.in_ok-note_dependency.ensures.other,
)

pub returns : goal.returns
returns c = gathered c.args.edges.now c.args.id c.loop-edge.edge-iterator.left c.loop-edge.numbers.keys c.in-None.ensures.steps.0.0 c.loop-edge.invariant.2
