use Rattle.std.proofs.Common.{ℕ, ◌<◌}
use Rattle.wac_graph_fields.specs.private.Stored.{DefinesAt}
use Rattle.wac_graph_fields.proofs.defined.is_defined.Given as goal

abbrev pub invariant-loop-number : goal.invariant-loop-number
invariant-loop-number l = (q : ℕ) → q < l.number → DefinesAt l.nodes l.ty q → ⊥
