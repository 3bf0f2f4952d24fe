use Rattle.std.proofs.Common.{◌≡◌, Some, ap}
use Rattle.wac_edges.specs.declared.edges.Edge.{Edge}
use Rattle.wac_edges.specs.declared.edges.End.TheVariants.{Incoming}
use Rattle.wac_edges.specs.Ends.{Walked}
use Rattle.wac_edges.proofs.SetLemmas.{seeks_start, seeks_next, seeks_found, seeks_none}
use Rattle.wac_graph_fields.proofs.taking.other_into.Goals as goal

pub loop-edge-init : goal.loop-edge-init
loop-edge-init c =
    (tt, tt, seeks_start c.args.edges.now c.args.node Incoming (λ (e : Edge). c.args.kept ≡ Some e → ⊥) c.walk-edge-items.result.left c.into_iter-edge-iterator.result.left (ap (λ (w : Walked). w.left) c.into_iter-edge-iterator.ensures.into_iter_gives) c.walk-edge-items.ensures.edges)

pub loop-edge-preserved : goal.loop-edge-preserved
loop-edge-preserved c =
    (tt, tt, seeks_next c.args.edges.now c.args.node Incoming (λ (e : Edge). c.args.kept ≡ Some e → ⊥) c.in-Some.edge c.next.new.self.left c.loop-edge.edge-iterator.left c.in-Some.ensures.steps.0 (λ differ. differ (c.is_kept.ensures.0 c.if-not-is_kept.false)) c.loop-edge.invariant.2)

pub returns-then-not-is_kept-clause-there : goal.returns-then-not-is_kept-clause-there
returns-then-not-is_kept-clause-there c = seeks_found c.args.edges.now c.args.node Incoming (λ (e : Edge). c.args.kept ≡ Some e → ⊥) c.in-Some.edge c.next.new.self.left c.loop-edge.edge-iterator.left c.in-Some.ensures.steps.0 c.loop-edge.invariant.2

pub returns-clause-none : goal.returns-clause-none
returns-clause-none c = λ e has at other. seeks_none c.args.edges.now c.args.node Incoming (λ (x : Edge). c.args.kept ≡ Some x → ⊥) c.loop-edge.edge-iterator.left c.in-None.ensures.steps.0.0 c.loop-edge.invariant.2 e has at other
