use Rattle.std.proofs.Common.{sym, ◌∙◌, subst}
use Rattle.wac_types_shapes.specs.declared.shapes.component.ValueType.{ValueType}
use Rattle.wac_types_shapes.specs.declared.shapes.component.«Type».TheVariants as ty
use Rattle.wac_merge_trees.specs.private.coding.Coding.{source_tree, HasTree, IsRight}
use Rattle.wac_merge_trees.proofs.lemmas.coding.CodingGrowth.{on_ok, right_grown}
use Rattle.wac_merge_trees.proofs.lemmas.coding.CodingMemo.{same_right}
use Rattle.wac_merge_trees.proofs.coding.memo.Memo.value.Goals as goal

pub returns-in-Some-clause-number : goal.returns-in-Some-clause-number
returns-in-Some-clause-number c =
    let t = source_tree c.args.source.now in
    subst (λ (v : ValueType). HasTree c.args.nodes.now (t (ty.Value v)) c.in-Some.number) (sym c.in-Defined.is) (c.requires.right.defined c.in-Defined.id c.in-Some.number (sym c.defined.ensures ∙ c.in-Some.is))

pub returns-clause-right : goal.returns-clause-right
returns-clause-right c =
    let t = source_tree c.args.source.now in
    on_ok (IsRight t c.finish.new.self c.part.new.nodes) c.part.result (right_grown t c.finish.new.self c.finish.new.nodes c.part.new.nodes c.part.ensures.grown c.in_ok-finish.ensures.right)

pub finish-requires-clause-right : goal.finish-requires-clause-right
finish-requires-clause-right c = same_right (source_tree c.args.source.now) c.args.nodes.now c.args.self.now c.take_tasks-tasks.new.self c.take_tasks-tasks.ensures.same c.requires.right
