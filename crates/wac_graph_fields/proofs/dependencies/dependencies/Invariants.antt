use Rattle.std.specs.Prelude.{◌↔◌, Contains}
use Rattle.wac_types_collection.specs.reach.Reach.{AreClosed, IsIn}
use Rattle.wac_edges.specs.declared.edges.Edge.{Edge}
use Rattle.wac_edges.specs.Edge.{AreOnce}
use Rattle.wac_graph_fields.proofs.DependencyLemmas.{BringsBelow}
use Rattle.wac_graph_fields.proofs.dependencies.dependencies.Given as goal

abbrev pub invariant-loop-number : goal.invariant-loop-number
invariant-loop-number l =
    ((e : Edge) → Contains l.brought.items e ↔ BringsBelow l.types l.nodes l.ty l.id l.number e) × AreOnce l.brought.items × AreClosed l.types l.apart × (IsIn l.ty l.apart → ⊥)
