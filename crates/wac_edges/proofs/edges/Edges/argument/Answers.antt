use Rattle.std.proofs.Common.{◌≡◌, true, false, sym, ap, ◌∙◌, subst}
use Rattle.std.specs.FinSet as set
use Rattle.wac_edges.specs.declared.edges.End.TheVariants.{Incoming}
use Rattle.wac_edges.specs.declared.edges.Label.{Label}
use Rattle.wac_edges.specs.declared.edges.Label.TheVariants.{Argument}
use Rattle.wac_edges.specs.declared.edges.Edge.{Edge}
use Rattle.wac_edges.specs.declared.node.NodeId.{NodeId}
use Rattle.wac_edges.specs.Ends.{Walked}
use Rattle.wac_edges.proofs.EdgeLemmas.{label_exact, label_tied}
use Rattle.wac_edges.proofs.SetLemmas.{seeks_start, seeks_next, seeks_found}
use Rattle.wac_edges.proofs.edges.Edges.argument.Goals as goal

pub loop-edge-init : goal.loop-edge-init
loop-edge-init c =
    (tt, tt, seeks_start c.args.self.now c.args.target Incoming (λ (e : Edge). e.label ≡ Argument c.args.position) c.walk-edge-items.result.left c.into_iter-edge-iterator.result.left (ap (λ (w : Walked). w.left) c.into_iter-edge-iterator.ensures.into_iter_gives) c.walk-edge-items.ensures.edges)

pub loop-edge-preserved : goal.loop-edge-preserved
loop-edge-preserved c =
    (tt, tt, seeks_next c.args.self.now c.args.target Incoming (λ (e : Edge). e.label ≡ Argument c.args.position) c.in-Some.edge c.next.new.self.left c.loop-edge.edge-iterator.left c.in-Some.ensures.steps.0 (λ same. let wrong : false ≡ true = sym c.if-eq.false ∙ c.eq.ensures ∙ label_tied c.in-Some.edge.label (Argument c.args.position) same in cc) c.loop-edge.invariant.2)

pub returns-then-eq-clause-some : goal.returns-then-eq-clause-some
returns-then-eq-clause-some c =
    let (has, at) = seeks_found c.args.self.now c.args.target Incoming (λ (e : Edge). e.label ≡ Argument c.args.position) c.in-Some.edge c.next.new.self.left c.loop-edge.edge-iterator.left c.in-Some.ensures.steps.0 c.loop-edge.invariant.2 in
    let label : c.in-Some.edge.label ≡ Argument c.args.position = label_exact c.in-Some.edge.label (Argument c.args.position) (sym c.eq.ensures ∙ c.if-eq.true) in
    subst (λ (l : Label). set.contains c.args.self.now (record { source = c.in-Some.edge.source; target = c.args.target; label = l }) ≡ true) label
    (subst (λ (n : NodeId). set.contains c.args.self.now (record { source = c.in-Some.edge.source; target = n; label = c.in-Some.edge.label }) ≡ true) at has)
