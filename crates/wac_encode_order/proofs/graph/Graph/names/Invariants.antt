use Rattle.wac_encode_order.specs.private.Graph.{AreNamed}
use Rattle.wac_encode_order.proofs.graph.Graph.names.Given as goal

abbrev pub invariant-loop-position : goal.invariant-loop-position
invariant-loop-position l = AreNamed l.self.types.now l.self.items.now l.self.found.now l.position l.named.items
