use Rattle.wac_encode_order.specs.private.Graph.{Adds, Below}
use Rattle.wac_encode_order.proofs.Edging.{ToType}
use Rattle.wac_encode_order.proofs.graph.Graph.add_types.Given as goal

abbrev pub invariant-loop-place : goal.invariant-loop-place
invariant-loop-place l = Adds l.initial.edges l.edges (λ a b. Below l.place (λ i. ToType l.self.types.now l.self.items.now l.self.found.now i a b))
