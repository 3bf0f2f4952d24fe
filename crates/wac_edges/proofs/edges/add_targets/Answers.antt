use Rattle.std.proofs.Common.{◌≡◌, List, [], ◌∷◌, ◌++◌, ◌⊎◌, append_assoc, append-nil, sym, ap, ◌∙◌, subst}
use Rattle.std.specs.Prelude.{◌↔◌}
use Rattle.wac_edges.specs.declared.edges.Edge.{Edge}
use Rattle.wac_edges.specs.Edge.{node_number}
use Rattle.wac_edges.specs.cycles.Cycles.{IsStep}
use Rattle.wac_edges.specs.private.Targets.{LeadsTo}
use Rattle.wac_edges.proofs.TargetLemmas.{leads_push, step_more}
use Rattle.wac_edges.proofs.edges.add_targets.Goals as goal

pub loop-edge-preserved : goal.loop-edge-preserved
loop-edge-preserved c =
    let (given, is, steps) = c.loop-edge.invariant.2 in
    let e = c.in-Some.edge in
    let left = c.next.new.self.left in (
      tt,
      tt,
      (
        given ++ e ∷ [],
        is ∙ ap (λ (l : List Edge). given ++ l) c.in-Some.ensures.steps.0 ∙ sym (append_assoc given (e ∷ []) left),
        λ n b. step_more (IsStep c.args.targets.now n b) (IsStep c.loop-edge.targets n b) (IsStep c.add_step.new.targets n b) (n ≡ c.args.a) (LeadsTo given (node_number b)) (LeadsTo (given ++ e ∷ []) (node_number b)) (b ≡ e.target.0)
            (steps n b) (c.in_ok-add_step.ensures n b) (leads_push given e b),
      ),
    )

pub returns : goal.returns
returns c =
    let (given, is, steps) = c.loop-edge.invariant.2 in
    let all : c.args.walk.left ≡ given = is ∙ ap (λ (l : List Edge). given ++ l) c.in-None.ensures.steps.0.0 ∙ append-nil given in
    λ n b. subst (λ (l : List Edge). IsStep c.loop-edge.targets n b ↔ (IsStep c.args.targets.now n b ⊎ ((n ≡ c.args.a) × LeadsTo l (node_number b)))) (sym all) (steps n b)
