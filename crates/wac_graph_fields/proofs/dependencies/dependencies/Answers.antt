use Rattle.std.proofs.Common.{◌≡◌, ◌∙◌, ◌++◌, ◌∷◌, ◌⊎◌, [], ap, refl, sym, arith, inl, inr, true, false, None, Some, IsTrue, Vec, Global}
use Rattle.wac_edges.specs.declared.edges.Edge.{Edge}
use Rattle.wac_types_shapes.specs.declared.shapes.component.«Type».{«Type» as AnyType}
use Rattle.wac_types_collection.specs.reach.Reach.{Reaches}
use Rattle.wac_edges.specs.Edge.{node_number}
use Rattle.wac_graph_model.specs.nodes.Definitions.{IsDefinedValue, dependency_edge}
use Rattle.wac_graph_fields.proofs.DependencyLemmas.{none_pushed, one_pushed, pushed, once_more, brings_all}
use Rattle.wac_graph_fields.proofs.dependencies.dependencies.Goals as goal
use Rattle.wac_graph_fields.proofs.dependencies.dependencies.Goals.{then-is_reached+in_ok-push, else-is_reached, then-branch+in_ok-push-2, else-branch}

no_some : {t : AnyType} → None ≡ Some t → ⊥
no_some h = cc

true_false : true ≡ false → ⊥
true_false h = cc

untrue : IsTrue false → ⊥
untrue h = cc

pub loop-number-preserved-in_default : goal.loop-number-preserved-in_default
loop-number-preserved-in_default c = (
  none_pushed c.args.types.now c.args.nodes.now c.args.ty c.args.id c.loop-number.number c.loop-number.brought.items (λ u h. c.in_default.not-Some u ((c.defined_at.ensures u).1 h)) c.loop-number.invariant.0,
  c.loop-number.invariant.1,
  c.loop-number.invariant.2,
  c.loop-number.invariant.3,
)

pub reaches-requires-clause-held : goal.reaches-requires-clause-held
reaches-requires-clause-held c = c.requires.defined c.loop-number.number c.in-Some.other ((c.in-Some.ensures c.in-Some.other).0 refl)

pub loop-number-preserved : goal.loop-number-preserved
loop-number-preserved c =
    let first : ((IsDefinedValue c.in-Some.other × Reaches c.args.types.now c.args.ty c.in-Some.other) × (c.if-is_reached.brought.items ≡ c.loop-number.brought.items ++ dependency_edge (node_number c.loop-number.number) c.args.id ∷ []))
    ⊎ ((IsDefinedValue c.in-Some.other × Reaches c.args.types.now c.args.ty c.in-Some.other → ⊥) × (c.if-is_reached.brought.items ≡ c.loop-number.brought.items)) = elim c.if-is_reached.branch [
      | then-is_reached+in_ok-push w ↦ let (defined, among) = w.if-is_reached.ensures.0 refl in
          inl (
            (defined, (c.in_ok-reached.ensures c.in-Some.other).0 among),
            ap (λ (v : Vec Edge Global). v.items) w.brought-is ∙ w.in_ok-push.ensures.items ∙ ap (λ e. c.loop-number.brought.items ++ e ∷ []) w.dependency.ensures,
          )
      | else-is_reached w ↦ inr (λ (defined, reached). untrue (w.if-is_reached.ensures.1 (defined, (c.in_ok-reached.ensures c.in-Some.other).1 reached)), ap (λ (v : Vec Edge Global). v.items) w.brought-is)
    ] in
    let second : ((IsDefinedValue c.args.ty × Reaches c.args.types.now c.in-Some.other c.args.ty) × (c.if-branch.brought.items ≡ c.if-is_reached.brought.items ++ dependency_edge c.args.id (node_number c.loop-number.number) ∷ []))
    ⊎ ((IsDefinedValue c.args.ty × Reaches c.args.types.now c.in-Some.other c.args.ty → ⊥) × (c.if-branch.brought.items ≡ c.if-is_reached.brought.items)) = elim c.if-branch.branch [
      | then-branch+in_ok-push-2 w ↦ inl (
        c.in_ok-reaches.ensures.reaches.0 w.if-branch.true,
        ap (λ (v : Vec Edge Global). v.items) w.brought-is ∙ w.in_ok-push-2.ensures.items ∙ ap (λ e. c.if-is_reached.brought.items ++ e ∷ []) w.dependency-then-branch.ensures,
      )
      | else-branch w ↦ inr (λ p. true_false (sym (c.in_ok-reaches.ensures.reaches.1 p) ∙ w.if-branch.false), ap (λ (v : Vec Edge Global). v.items) w.brought-is)
    ] in (
      one_pushed c.args.types.now c.args.nodes.now c.args.ty c.args.id c.loop-number.number c.in-Some.other c.loop-number.brought.items c.if-is_reached.brought.items c.if-branch.brought.items c.in-Some.ensures c.loop-number.invariant.0
          (pushed (IsDefinedValue c.in-Some.other × Reaches c.args.types.now c.args.ty c.in-Some.other) c.loop-number.brought.items c.if-is_reached.brought.items (dependency_edge (node_number c.loop-number.number) c.args.id) first)
          (pushed (IsDefinedValue c.args.ty × Reaches c.args.types.now c.in-Some.other c.args.ty) c.if-is_reached.brought.items c.if-branch.brought.items (dependency_edge c.args.id (node_number c.loop-number.number)) second),
      once_more c.args.types.now c.args.nodes.now c.args.ty c.args.id c.law.ensures c.loop-number.number c.in-Some.other c.loop-number.brought.items c.if-is_reached.brought.items c.if-branch.brought.items c.loop-number.invariant.0 c.loop-number.invariant.1 first second,
      c.in_ok-reaches.ensures.closed,
      c.in_ok-reaches.ensures.apart,
    )

pub returns-clause-edges : goal.returns-clause-edges
returns-clause-edges c =
    brings_all c.args.types.now c.args.nodes.now c.args.ty c.args.id c.loop-number.number c.loop-number.brought.items c.loop-number.invariant.0
    (let slots = c.capacity-number-end.ensures.slots in let past = c.loop-number-test.false in omega (arith, slots, past))
