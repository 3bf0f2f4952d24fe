use Rattle.wac_encode_order.specs.private.Graph.{Adds, Below, ItemComesAfter}
use Rattle.wac_encode_order.proofs.graph.Graph.add_items.Given as goal

abbrev pub invariant-loop-position : goal.invariant-loop-position
invariant-loop-position l = Adds l.initial.edges l.edges (λ a b. Below l.position (λ p. ItemComesAfter l.self.types.now l.self.items.now l.self.found.now p a b))
