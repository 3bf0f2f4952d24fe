use Rattle.std.proofs.Common.{lit<, ℕ, ◌<◌, arith, below_more, inr, subst, sym}
use Rattle.wac_types_shapes.specs.primitives.Name.{Name}
use Rattle.wac_edges.specs.declared.node.NodeId.{NodeId}
use Rattle.wac_graph_model.specs.causes.Cause.{IsConflict, HasNoConflict, conflict}
use Rattle.wac_edges.specs.Edge.{node_number}
use Rattle.wac_graph_reader.proofs.lemmas.writing.ConflictLemmas.{is_lowest, no_conflict}
use Rattle.wac_graph_model.proofs.lemmas.causes.StandsLemmas.{stands_conflict}
use Rattle.wac_graph.specs.private.Inside.{fields_of}
use Rattle.wac_graph.proofs.ConflictFreeLemmas.{no_imports}
use Rattle.wac_graph.proofs.graph.CompositionGraph.check_conflicts.Goals as goal

pub conflict-requires-clause-lowest : goal.conflict-requires-clause-lowest
conflict-requires-clause-lowest c = is_lowest c.args.self.now c.loop-n.n c.loop-n.invariant

pub loop-n-preserved : goal.loop-n-preserved
loop-n-preserved c = below_more (λ m. (import : NodeId) (i : ℕ) (name : Name) → IsConflict c.args.self.now import (node_number m) i name → ⊥) _ c.loop-n.invariant c.in_default.ensures.none

pub returns-clause-none : goal.returns-clause-none
returns-clause-none c =
    subst (λ g. HasNoConflict g) c.self.view_is
    (no_conflict (fields_of c.self.inside) c.loop-n.n (omega (arith, c.loop-n-test.false, c.capacity-n-end.ensures.slots))
    (subst (λ g. (m : ℕ) → m < c.loop-n.n → (import : NodeId) (i : ℕ) (name : Name) → IsConflict g import (node_number m) i name → ⊥) (sym c.self.view_is) c.loop-n.invariant))

pub returns-in-Some-clause-refused : goal.returns-in-Some-clause-refused
returns-in-Some-clause-refused c = λ o.
    let (key, name, names, first) = c.in_ok-conflict.ensures in
    inr (conflict c.in-Some.import (node_number c.loop-n.n) key name, names, lit< tt, stands_conflict c.args.self.now o c.in-Some.import (node_number c.loop-n.n) key name c.requires first)

pub returns-then-is_empty-clause-none : goal.returns-then-is_empty-clause-none
returns-then-is_empty-clause-none c = rw (← c.self.view_is) (no_imports (fields_of c.self.inside) c.self.invariant (c.is_empty.ensures.0 c.if-is_empty.true))
