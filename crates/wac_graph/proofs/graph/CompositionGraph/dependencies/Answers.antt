use Rattle.std.proofs.Common.{◌≡◌, ◌++◌, List, [], ◌∷◌, ℕ, map, sym, ap, ◌∙◌, subst, append_assoc, append-nil}
use Rattle.std.specs.Prelude.{◌↔◌}
use Rattle.wac_edges.specs.declared.node.NodeId.{NodeId}
use Rattle.wac_edges.specs.Edge.{node_number}
use Rattle.wac_edges.specs.private.cycles.Numbers.{Has}
use Rattle.wac_graph_model.specs.nodes.Graph.{Graph}
use Rattle.wac_graph.specs.Listed.{IsDependencyOf}
use Rattle.wac_graph.proofs.DependencyLemmas.{dependencies_listed}
use Rattle.wac_graph.proofs.graph.CompositionGraph.dependencies.Goals as goal

pub loop-number-init : goal.loop-number-init
loop-number-init c = ap (λ (ns : List NodeId). ns ++ map node_number c.into_iter-number-iterator.result) c.new-nodes.ensures.items

pub loop-number-preserved : goal.loop-number-preserved
loop-number-preserved c =
    let n : ℕ = c.in-Some.number.now in
    let rest : List ℕ = c.next.new.self in
    ap (λ (ns : List NodeId). ns ++ map node_number rest) c.in_ok-push.ensures.items
    ∙ (append_assoc c.loop-number.nodes.items (node_number n ∷ []) (map node_number rest)
    ∙ (sym (ap (λ (ns : List ℕ). c.loop-number.nodes.items ++ map node_number ns) c.in-Some.ensures.steps) ∙ c.loop-number.invariant))

pub returns : goal.returns
returns c =
    let given : c.into_iter-number-iterator.result ≡ c.in_ok-numbers.numbers.keys = c.into_iter-number-iterator.ensures.into_iter_gives ∙ c.iter-number-items.ensures.rest in
    let whole : c.loop-number.nodes.items ≡ map node_number c.in_ok-numbers.numbers.keys =
    sym (append-nil c.loop-number.nodes.items)
    ∙ (sym (ap (λ (ns : List ℕ). c.loop-number.nodes.items ++ map node_number ns) c.in-None.ensures.steps.0) ∙ (c.loop-number.invariant ∙ ap (map node_number) given)) in
    let all : (n : ℕ) → Has c.in_ok-numbers.numbers.keys n ↔ IsDependencyOf c.args.self.now (node_number n) c.args.id =
    subst (λ (g : Graph). (n : ℕ) → Has c.in_ok-numbers.numbers.keys n ↔ IsDependencyOf g (node_number n) c.args.id) c.self.view_is c.in_ok-numbers.ensures in
    dependencies_listed c.args.self.now c.args.id c.in_ok-numbers.numbers.keys c.loop-number.nodes.items whole all c.iter-number-items.ensures.ordered
