use Rattle.std.proofs.Common.{◌≡◌, true, false, sym, ap, ◌∙◌}
use Rattle.wac_edges.specs.declared.edges.Edge.{Edge}
use Rattle.wac_edges.specs.Ends.{Walked}
use Rattle.wac_edges.proofs.EdgeLemmas.{label_exact, label_tied}
use Rattle.wac_edges.proofs.SetLemmas.{seeks_start, seeks_next, seeks_found, seeks_none}
use Rattle.wac_edges.proofs.edges.Edges.has.Goals as goal

pub loop-edge-init : goal.loop-edge-init
loop-edge-init c =
    (tt, tt, seeks_start c.args.self.now c.args.node c.args.end (λ (e : Edge). e.label ≡ c.args.label) c.walk-edge-items.result.left c.into_iter-edge-iterator.result.left (ap (λ (w : Walked). w.left) c.into_iter-edge-iterator.ensures.into_iter_gives) c.walk-edge-items.ensures.edges)

pub loop-edge-preserved : goal.loop-edge-preserved
loop-edge-preserved c =
    (tt, tt, seeks_next c.args.self.now c.args.node c.args.end (λ (e : Edge). e.label ≡ c.args.label) c.in-Some.edge c.next.new.self.left c.loop-edge.edge-iterator.left c.in-Some.ensures.steps.0 (λ same. let wrong : false ≡ true = sym c.if-eq.false ∙ c.eq.ensures ∙ label_tied c.in-Some.edge.label c.args.label same in cc) c.loop-edge.invariant.2)

pub returns-then-eq-clause-there : goal.returns-then-eq-clause-there
returns-then-eq-clause-there c =
    let (has, at) = seeks_found c.args.self.now c.args.node c.args.end (λ (e : Edge). e.label ≡ c.args.label) c.in-Some.edge c.next.new.self.left c.loop-edge.edge-iterator.left c.in-Some.ensures.steps.0 c.loop-edge.invariant.2 in
    (c.in-Some.edge, has, at, label_exact c.in-Some.edge.label c.args.label (sym c.eq.ensures ∙ c.if-eq.true))

pub returns-clause-absent : goal.returns-clause-absent
returns-clause-absent c = λ (e, has, at, label). seeks_none c.args.self.now c.args.node c.args.end (λ (e : Edge). e.label ≡ c.args.label) c.loop-edge.edge-iterator.left c.in-None.ensures.steps.0.0 c.loop-edge.invariant.2 e has at label
