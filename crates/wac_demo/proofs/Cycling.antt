-- A graph with a cycle of edges is refused by the lowest node on one.
use Rattle.std.proofs.Common.{ℕ, zero, suc, ◌<◌, [], ◌∷◌, refl, subst, arith, Result, Ok, Err, IsErr, IfSome, IsSome, inl, inr}
use Rattle.std.proofs.lemmas.Bool.{cases_lt}
use Rattle.std.specs.Result.{IsErrAnd}
use Rattle.wac_types_shapes.specs.primitives.Name.{Name}
use Rattle.wac_types_shapes.specs.declared.shapes.component.ItemKind.{ItemKind}
use Rattle.wac_edges.specs.declared.node.NodeId.{NodeId}
use Rattle.wac_edges.specs.Edge.{argument_edge}
use Rattle.wac_edges.specs.Order.{Edges, IsOnCycle, IsLowestOnCycle}
use Rattle.wac_graph_model.specs.declared.nodes.options.EncodeOptions.{EncodeOptions}
use Rattle.wac_graph_model.specs.declared.nodes.packages.PackageId.{PackageId}
use Rattle.wac_graph_model.specs.nodes.Graph.{Graph, node_at}
use Rattle.wac_graph_model.specs.nodes.Steps.{Instantiates, SetsArgument}
use Rattle.wac_graph_model.specs.nodes.Stays.{IsArgumentBy}
use Rattle.wac_graph_model.proofs.lemmas.nodes.StaysLemmas.{argument-stays}
use Rattle.wac_merge_classes.specs.declared.terms.fault.MergeFault.TheVariants as merge
use Rattle.wac_graph_model.specs.declared.causes.errors.EncodeError.{EncodeError}
use Rattle.wac_graph_model.specs.declared.causes.errors.EncodeError.TheVariants as error
use Rattle.wac_graph_model.specs.causes.Cause.{Cause, cycle, CauseKind, a_cycle, a_conflict, a_disagreement, a_circle, a_type_fault, an_invalid_name, rank, IsFirstKind, Stands, cause_of, AnswersFor}
use Rattle.wac_graph_model.proofs.lemmas.causes.StandsLemmas.{stands_cycle}
use Rattle.wac_demo.specs.Composed.{IsInstanceOf, IsEmptyPackage, IsItsOwnArgument, RefusesCycle}
use Rattle.wac_demo.proofs.Following.{instance-later, instance-there, there-is}

-- where no node is the lowest on a cycle none is on one
none_on : (edges : Edges) → ((n : NodeId) → IsLowestOnCycle edges n → ⊥) → (k : ℕ) (n : NodeId) → n.0 < k → IsOnCycle edges n → ⊥
none_on edges none zero n h on = absurd (omega (arith, h))
none_on edges none (suc k) n h on = none n (record {
  here = on;
  lowest = λ m other. elim (cases_lt m.0 n.0) [ inl below ↦ absurd (none_on edges none k m (omega (arith, h, below)) other) | inr above ↦ above ];
})

module _ (g : Graph) (o : EncodeOptions) (n : NodeId) (on : IsOnCycle g.edges n) where
  -- a cause stands
  pub some_cause : ((cause : Cause) → Stands g o cause → ⊥) → ⊥
  some_cause none = none_on g.edges (λ m lowest. none (cycle m) (stands_cycle g o m lowest)) (suc n.0) n (omega arith) on

  -- so the graph is refused
  pub is_refused : {A : Type 0} (r : Result A EncodeError) → ((cause : Cause) → Stands g o cause → IsErrAnd r (AnswersFor cause)) → IsErr r
  is_refused (Ok x) refused = absurd (some_cause (λ cause stands. refused cause stands))
  is_refused (Err e) refused = refl

  -- and none of another kind
  no_other : (k : CauseKind) → 0 < rank k → IsFirstKind g o k → ⊥
  no_other k h first = first.1 a_cycle h (n, on)

  -- so a refusal names the lowest node on one, memory aside
  pub cycle_answer : (e : EncodeError) → IfSome (cause_of e) (Stands g o) → ((cause : Cause) → Stands g o cause → AnswersFor cause e) → RefusesCycle g e
  cycle_answer (error.GraphContainsCycle node) stands answers = inl (node, stands.1, refl)
  cycle_answer (error.ImplicitImportConflict import instantiation key name) stands answers = absurd (no_other a_conflict (omega arith) stands.0)
  cycle_answer (error.ImportTypeMergeConflict import first second (merge.Disagree p q x)) stands answers = absurd (no_other a_disagreement (omega arith) stands.0)
  cycle_answer (error.ImportTypeMergeConflict import first second (merge.UseEachOther x)) stands answers = absurd (no_other a_disagreement (omega arith) stands.0)
  cycle_answer (error.ImportTypeMergeConflict import first second merge.OutOfMemory) stands answers = absurd (no_other a_disagreement (omega arith) stands.0)
  cycle_answer (error.ExplicitImportMergeConflict import node other) stands answers = absurd (no_other a_disagreement (omega arith) stands.0)
  cycle_answer (error.ImportsUseEachOther import) stands answers = absurd (no_other a_circle (omega arith) stands.0)
  cycle_answer (error.TypeNotWritable node fault) stands answers = absurd (no_other a_type_fault (omega arith) stands.0)
  cycle_answer error.TooLarge stands answers = absurd (some_cause (λ cause s. named cause s (answers cause s))) where
    named : (cause : Cause) → Stands g o cause → AnswersFor cause error.TooLarge → ⊥
    named cause s (inl is) = cc
    named cause s (inr (inl is)) = cc
    named cause s (inr (inr is)) = no_other an_invalid_name (omega arith) (subst (IsFirstKind g o) is.0 s.0)
  cycle_answer error.OutOfMemory stands answers = inr refl
  cycle_answer (error.ValidationFailure fault) stands answers = absurd (no_other an_invalid_name (omega arith) stands.0)

-- a node that is its own argument is on a cycle
pub own-cycle : (g : Graph) (n : NodeId) (name : Name) → IsArgumentBy g n name n → IsOnCycle g.edges n
own-cycle g n name h = ([], (argument_edge n n h.1.0, h.4, refl, refl))

-- the instance that is made is there, and is its own argument once it is set
module _ (g2 g3 : Graph) (id : PackageId) (name imported : Name) (kind : ItemKind) (n : NodeId)
    (registered : IsEmptyPackage g2 id name ((imported, kind) ∷ []) []) (instantiated : Instantiates g2 id (Ok n) g3) where
  made : IsInstanceOf g3 name n
  made = (instance-there g2 g3 id name ((imported, kind) ∷ []) [] n registered instantiated).0

  pub made-there : IsSome (node_at g3 n)
  made-there = there-is (node_at g3 n) _ made.2

  pub own-argument : (g4 : Graph) → SetsArgument g3 n imported n (Ok tt) g4 → IsItsOwnArgument g4 name imported
  own-argument g4 step =
      let set = argument-stays g3 g4 n _ imported n _ made.2 made.2 step in
      (n, instance-later g3 g4 name n set.1 made, set.0)
