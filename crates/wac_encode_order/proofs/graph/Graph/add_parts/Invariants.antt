use Rattle.wac_encode_order.specs.private.Graph.{Adds, Below}
use Rattle.wac_encode_order.proofs.Edging.{FromPart}
use Rattle.wac_encode_order.proofs.graph.Graph.add_parts.Given as goal

abbrev pub invariant-loop-i : goal.invariant-loop-i
invariant-loop-i l = Adds l.initial.edges l.edges (λ a b. Below l.i (λ i. FromPart l.self.types.now l.self.items.now l.self.found.now l.parts.items l.place i a b))
