use Rattle.std.proofs.Common.{◌≡◌, Bool, List, true, false, sym, ap, ◌∙◌, subst, refl}
use Rattle.std.specs.FinSet as set
use Rattle.std.proofs.lemmas.Bool.{false_from_ne_true}
use Rattle.wac_edges.specs.declared.edges.End.TheVariants.{Outgoing}
use Rattle.wac_edges.specs.declared.edges.Label.{Label}
use Rattle.wac_edges.specs.declared.edges.Label.TheVariants.{Alias}
use Rattle.wac_edges.specs.declared.edges.Edge.{Edge}
use Rattle.wac_edges.specs.declared.node.NodeId.{NodeId}
use Rattle.wac_edges.specs.Edge.{alias_edge}
use Rattle.wac_edges.specs.private.Aliases.{is_crowded}
use Rattle.wac_edges.specs.Ends.{Walked}
use Rattle.wac_edges.proofs.AliasLemmas.{alias_found, alias_absent, if_none}
use Rattle.wac_edges.proofs.EdgeLemmas.{label_exact, label_tied}
use Rattle.wac_edges.proofs.SetLemmas.{seeks_start, seeks_next, seeks_found, seeks_none}
use Rattle.wac_edges.proofs.edges.Edges.alias.Goals as goal

pub returns-then-is_crowded-clause-some : goal.returns-then-is_crowded-clause-some
returns-then-is_crowded-clause-some c =
    alias_found c.self.inside.records c.self.inside.crowded.items c.self.inside.aliases c.args.self.now c.self.invariant.1 c.self.view_is c.args.source c.args.position c.in_ok-target.target c.in_ok-target.ensures.some

pub returns-in_err-target-clause-none : goal.returns-in_err-target-clause-none
returns-in_err-target-clause-none c =
    if_none c.from_residual.result
    (alias_absent c.self.inside.records c.self.inside.crowded.items c.self.inside.aliases c.args.self.now c.self.invariant.1 c.self.view_is c.args.source c.args.position (ap (λ (l : List Bool). is_crowded l c.args.source) (sym c.deref.ensures.value) ∙ sym c.is_crowded.ensures ∙ c.if-is_crowded.true) c.in_err-target.ensures.none)

pub loop-edge-init : goal.loop-edge-init
loop-edge-init c =
    (tt, tt, seeks_start c.args.self.now c.args.source Outgoing (λ (e : Edge). e.label ≡ Alias c.args.position) c.walk-edge-items.result.left c.into_iter-edge-iterator.result.left (ap (λ (w : Walked). w.left) c.into_iter-edge-iterator.ensures.into_iter_gives) c.walk-edge-items.ensures.edges)

pub loop-edge-preserved : goal.loop-edge-preserved
loop-edge-preserved c =
    (tt, tt, seeks_next c.args.self.now c.args.source Outgoing (λ (e : Edge). e.label ≡ Alias c.args.position) c.in-Some.edge c.next.new.self.left c.loop-edge.edge-iterator.left c.in-Some.ensures.steps.0 (λ same. let wrong : false ≡ true = sym c.if-eq.false ∙ c.eq.ensures ∙ label_tied c.in-Some.edge.label (Alias c.args.position) same in cc) c.loop-edge.invariant.2)

pub returns-then-eq-clause-some : goal.returns-then-eq-clause-some
returns-then-eq-clause-some c =
    let (has, at) = seeks_found c.args.self.now c.args.source Outgoing (λ (e : Edge). e.label ≡ Alias c.args.position) c.in-Some.edge c.next.new.self.left c.loop-edge.edge-iterator.left c.in-Some.ensures.steps.0 c.loop-edge.invariant.2 in
    let label : c.in-Some.edge.label ≡ Alias c.args.position = label_exact c.in-Some.edge.label (Alias c.args.position) (sym c.eq.ensures ∙ c.if-eq.true) in
    subst (λ (l : Label). set.contains c.args.self.now (record { source = c.args.source; target = c.in-Some.edge.target; label = l }) ≡ true) label
    (subst (λ (n : NodeId). set.contains c.args.self.now (record { source = n; target = c.in-Some.edge.target; label = c.in-Some.edge.label }) ≡ true) at has)

pub returns-clause-none : goal.returns-clause-none
returns-clause-none c target =
    false_from_ne_true (set.contains c.args.self.now (alias_edge c.args.source target c.args.position))
    (λ h. seeks_none c.args.self.now c.args.source Outgoing (λ (e : Edge). e.label ≡ Alias c.args.position) c.loop-edge.edge-iterator.left c.in-None.ensures.steps.0.0 c.loop-edge.invariant.2 (alias_edge c.args.source target c.args.position) h refl refl)
