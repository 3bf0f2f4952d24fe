use Rattle.std.proofs.Common.{ap, sym, ◌∙◌, subst}
use Rattle.wac_types_shapes.specs.declared.shapes.component.ValueType.{ValueType}
use Rattle.wac_types_shapes.specs.declared.shapes.component.«Type».TheVariants as ty
use Rattle.wac_merge_trees.specs.private.coding.CallsView.{names_in}
use Rattle.wac_merge_trees.specs.private.coding.Coding.{source_tree, HasTree}
use Rattle.wac_merge_trees.proofs.lemmas.coding.CodingGrowth.{answer_same}
use Rattle.wac_merge_trees.proofs.lemmas.coding.CodingTrees.{primitive_is}
use Rattle.wac_merge_trees.proofs.coding.memo.Memo.part.Goals as goal

pub returns-in-Primitive-clause-number : goal.returns-in-Primitive-clause-number
returns-in-Primitive-clause-number c =
    let s = c.args.source.now in
    let e = ap (λ (v : ValueType). source_tree s (ty.Value v)) c.in-Primitive.is ∙ primitive_is s.types.now (names_in s.types.now s.calls.now) c.in-Primitive.primitive in
    answer_same c.add.result c.add.new.nodes _ _ (sym e) c.add.ensures.number

pub returns-in-Own-clause-number : goal.returns-in-Own-clause-number
returns-in-Own-clause-number c = answer_same c.owned.result c.owned.new.nodes _ _ (ap (λ (v : ValueType). source_tree c.args.source.now (ty.Value v)) (sym c.in-Own.is)) c.owned.ensures.number

pub returns-in-Borrow-clause-number : goal.returns-in-Borrow-clause-number
returns-in-Borrow-clause-number c = answer_same c.lent.result c.lent.new.nodes _ _ (ap (λ (v : ValueType). source_tree c.args.source.now (ty.Value v)) (sym c.in-Borrow.is)) c.lent.ensures.number

pub returns-in-Defined-clause-number : goal.returns-in-Defined-clause-number
returns-in-Defined-clause-number c =
    let s = c.args.source.now in
    let h = c.requires.right.defined c.in-Defined.id c.unwrap.result (sym c.defined.ensures ∙ c.unwrap.ensures) in
    subst (λ (v : ValueType). HasTree c.args.nodes.now (source_tree s (ty.Value v)) c.unwrap.result) (sym c.in-Defined.is) h
