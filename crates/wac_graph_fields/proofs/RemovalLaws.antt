-- What a removal leaves.
use Rattle.std.proofs.Common.{◌≡◌, ℕ, Bool, true, false, cond, not, ◌&&◌, refl, ap, ◌∙◌, sym, None}
use Rattle.std.specs.FinSet as set
use Rattle.wac_edges.specs.declared.node.NodeId.{NodeId}
use Rattle.wac_edges.specs.Edge.{argument_edge}
use Rattle.wac_graph_model.specs.nodes.Graph.{Graph, node_at, IsArgumentOf, IsUnsatisfied}
use Rattle.wac_graph_model.specs.nodes.Sound.{IsSound}
use Rattle.wac_graph_fields.specs.Removal.{GoesWith, Removes}

both_true : (x y : Bool) → (x && y) ≡ true → (x ≡ true) × (y ≡ true)
both_true true y h = (refl, h)
both_true false y h = cc

no_longer : (b : Bool) → b ≡ true → not b ≡ true → ⊥
no_longer true _ h = cc
no_longer false h _ = cc

pub is_gone : (old new : Graph) (id n : NodeId) → Removes old id new → GoesWith old.edges id n → node_at new n ≡ None
is_gone old new id n r goes = r.rest.nodes n ∙ ap (λ b. cond b None (node_at old n)) ((r.goes n).1 goes)

pub is_there : (old new : Graph) (id n : NodeId) → Removes old id new → (GoesWith old.edges id n → ⊥) → node_at new n ≡ node_at old n
is_there old new id n r other = r.rest.nodes n ∙ ap (λ b. cond b None (node_at old n)) (off (r.gone n) (λ is. other ((r.goes n).0 is))) where
  off : (b : Bool) → (b ≡ true → ⊥) → b ≡ false
  off true h = absurd (h refl)
  off false h = refl

pub is_unsatisfied : (old new : Graph) (id n consumer : NodeId) (i : ℕ) → IsSound old → Removes old id new → GoesWith old.edges id n → IsArgumentOf old consumer i n → IsUnsatisfied new consumer i
is_unsatisfied old new id n consumer i s r goes was m is =
    let (stood, ends) = both_true (set.contains old.edges (argument_edge m consumer i)) (not (r.gone m) && not (r.gone consumer)) (sym (r.rest.edges (argument_edge m consumer i)) ∙ is) in
    let same : m ≡ n = s.one_argument consumer i m n stood was in
    no_longer (r.gone m) (ap r.gone same ∙ (r.goes n).1 goes) (both_true (not (r.gone m)) (not (r.gone consumer)) ends).0
