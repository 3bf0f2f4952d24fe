use Rattle.std.proofs.Common.{◌≡◌, ℕ, true, ap, subst}
use Rattle.std.specs.FinSet as set
use Rattle.wac_edges.specs.declared.edges.End.TheVariants.{Incoming}
use Rattle.wac_edges.specs.declared.edges.Label.{Label}
use Rattle.wac_edges.specs.declared.edges.Label.TheVariants.{Alias}
use Rattle.wac_edges.specs.declared.edges.Edge.{Edge}
use Rattle.wac_edges.specs.declared.node.NodeId.{NodeId}
use Rattle.wac_edges.specs.Ends.{Walked}
use Rattle.wac_edges.proofs.SetLemmas.{seeks_start, seeks_next, seeks_found}
use Rattle.wac_edges.proofs.edges.Edges.alias_source.Goals as goal

pub loop-edge-init : goal.loop-edge-init
loop-edge-init c =
    (tt, tt, seeks_start c.args.self.now c.args.target Incoming (λ (e : Edge). (i : ℕ) × (e.label ≡ Alias i)) c.walk-edge-items.result.left c.into_iter-edge-iterator.result.left (ap (λ (w : Walked). w.left) c.into_iter-edge-iterator.ensures.into_iter_gives) c.walk-edge-items.ensures.edges)

pub loop-edge-preserved : goal.loop-edge-preserved
loop-edge-preserved c =
    (tt, tt, seeks_next c.args.self.now c.args.target Incoming (λ (e : Edge). (i : ℕ) × (e.label ≡ Alias i)) c.in-Some.edge c.next.new.self.left c.loop-edge.edge-iterator.left c.in-Some.ensures.steps.0 (λ is. c.in_default.not-Alias is.0 is.1) c.loop-edge.invariant.2)

pub returns-in-Alias-clause-some : goal.returns-in-Alias-clause-some
returns-in-Alias-clause-some c =
    let (has, at) = seeks_found c.args.self.now c.args.target Incoming (λ (e : Edge). (i : ℕ) × (e.label ≡ Alias i)) c.in-Some.edge c.next.new.self.left c.loop-edge.edge-iterator.left c.in-Some.ensures.steps.0 c.loop-edge.invariant.2 in
    subst (λ (l : Label). set.contains c.args.self.now (record { source = c.in-Some.edge.source; target = c.args.target; label = l }) ≡ true) c.in-Alias.is
    (subst (λ (n : NodeId). set.contains c.args.self.now (record { source = c.in-Some.edge.source; target = n; label = c.in-Some.edge.label }) ≡ true) at has)
