use Rattle.std.proofs.Common.{◌≡◌, length, ap, ◌∙◌, subst, arith}
use Rattle.std.proofs.lemmas.List.{with_items_is}
use Rattle.wac_edges.specs.declared.edges.End.TheVariants.{Incoming}
use Rattle.wac_edges.specs.Edge.{node_number}
use Rattle.wac_edges.specs.Ends.{Walked, AreAt}
use Rattle.wac_graph_model.specs.nodes.Graph.{Graph}
use Rattle.wac_graph_reader.proofs.lemmas.writing.SourceLemmas.{only_none, noting_start, noting_next}
use Rattle.wac_graph_reader.proofs.reading.reader.GraphReader.sources.Goals as goal

pub loop-edge-init : goal.loop-edge-init
loop-edge-init c =
    let at : AreAt c.args.self.now.edges (node_number c.args.n) Incoming c.walk-edge-items.result.left = subst (λ (g : Graph). AreAt g.edges (node_number c.args.n) Incoming c.walk-edge-items.result.left) c.self.view_is c.walk-edge-items.ensures.edges in
    let long : length c.in_ok-sources.sources.items ≡ c.args.count = omega (arith, c.in_ok-sources.ensures.len, c.in_ok-sources.sources.ok) in (
      tt,
      tt,
      noting_start c.args.self.now.edges (node_number c.args.n) c.args.count c.walk-edge-items.result.left c.into_iter-edge-iterator.result.left c.in_ok-sources.sources.items (ap (λ (w : Walked). w.left) c.into_iter-edge-iterator.ensures.into_iter_gives) at
          (c.in_ok-sources.ensures.items_if_clones_equal (only_none _ (λ x same. same))) long,
    )

pub loop-edge-preserved : goal.loop-edge-preserved
loop-edge-preserved c =
    let long : length c.note_source.new.sources ≡ length c.loop-edge.sources.items = c.note_source.auto.sources ∙ ap length c.deref_mut.ensures.value in
    let same = with_items_is c.loop-edge.sources c.note_source.new.sources (omega (arith, long, c.loop-edge.sources.ok.0)) in
    rw same (
      tt,
      tt,
      noting_next c.args.self.now.edges (node_number c.args.n) c.args.count c.in-Some.edge c.next.new.self.left c.loop-edge.edge-iterator.left c.loop-edge.sources.items c.note_source.new.sources c.in-Some.ensures.steps.0 c.loop-edge.invariant.2
          (rw c.deref_mut.ensures.value at c.note_source.ensures.argument) (rw c.deref_mut.ensures.value at c.note_source.ensures.other),
    )
