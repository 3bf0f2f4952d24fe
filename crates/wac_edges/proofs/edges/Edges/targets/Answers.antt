use Rattle.std.proofs.Common.{◌≡◌, ◌<◌, ℕ, length, ap, ◌∙◌, subst, arith}
use Rattle.std.specs.Prelude.{◌↔◌}
use Rattle.std.proofs.lemmas.List.{with_items_is}
use Rattle.wac_edges.specs.Edge.{node_number}
use Rattle.wac_edges.specs.cycles.Cycles.{IsStep}
use Rattle.wac_edges.specs.Order.{IsEdge}
use Rattle.wac_edges.specs.private.Targets.{LeadsTo}
use Rattle.wac_edges.proofs.TargetLemmas.{next_row, step_as, leads_at}
use Rattle.wac_edges.proofs.edges.Edges.targets.Goals as goal

pub loop-a-init : goal.loop-a-init
loop-a-init c = record { counted = c.in_ok-targets.ensures.counted; steps = λ n b. (λ s. absurd (c.in_ok-targets.ensures.empty n b s), λ h. let wrong : n < 0 = h.0 in absurd (omega arith)) }

pub loop-a-preserved : goal.loop-a-preserved
loop-a-preserved c =
    let a = c.loop-a.a in
    let edges = c.args.self.now in
    let left = c.walk.result.left in
    let long : length c.add_targets.new.targets ≡ length c.loop-a.targets.items = c.add_targets.auto.targets ∙ ap length c.deref_mut.ensures.value in
    let same = with_items_is c.loop-a.targets c.add_targets.new.targets (omega (arith, long, c.loop-a.targets.ok.0)) in
    rw same (record {
      counted = long ∙ c.loop-a.invariant.counted;
      steps = λ n b. next_row (λ m. IsEdge edges (node_number m) (node_number b)) n a (IsStep c.loop-a.targets.items n b) (IsStep c.add_targets.new.targets n b) (c.loop-a.invariant.steps n b)
          (step_as (IsStep c.add_targets.new.targets n b) (IsStep c.loop-a.targets.items n b) (n ≡ a) (LeadsTo left (node_number b)) (IsEdge edges (node_number a) (node_number b))
          (rw c.deref_mut.ensures.value at (c.in_ok-add_targets.ensures n b)) (leads_at edges (node_number a) left c.walk.ensures.edges (node_number b)));
    })

pub returns-clause-steps : goal.returns-clause-steps
returns-clause-steps c =
    let all : c.loop-a.a ≡ c.args.nodes = omega arith in
    λ n b. subst (λ (k : ℕ). IsStep c.loop-a.targets.items n b ↔ ((n < k) × IsEdge c.args.self.now (node_number n) (node_number b))) all (c.loop-a.invariant.steps n b)
