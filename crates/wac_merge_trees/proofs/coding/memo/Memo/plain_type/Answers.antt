use Rattle.std.proofs.Common.{ap, sym, ◌∙◌}
use Rattle.wac_types_shapes.specs.declared.shapes.component.«Type».{«Type» as AnyType}
use Rattle.wac_types_collection.specs.subtyping.CalledViews.{called_view}
use Rattle.wac_merge_trees.specs.private.coding.CallsView.{names_in}
use Rattle.wac_merge_trees.specs.private.coding.Coding.{source_tree, IsRight}
use Rattle.wac_merge_trees.proofs.lemmas.coding.CodingGrowth.{answer_same, on_ok, right_grown}
use Rattle.wac_merge_trees.proofs.lemmas.coding.CodingTrees.{resource_is}
use Rattle.wac_merge_trees.proofs.coding.memo.Memo.plain_type.Goals as goal

pub returns-in_ok-called-in-Resource-clause-right :
    goal.returns-in_ok-called-in-Resource-clause-right
returns-in_ok-called-in-Resource-clause-right c =
    let t = source_tree c.args.source.now in
    on_ok (IsRight t c.args.self.now c.add.new.nodes) c.add.result (right_grown t c.args.self.now c.args.nodes.now c.add.new.nodes c.add.ensures.grown c.requires.right)

pub returns-in_ok-called-in-Resource-clause-number :
    goal.returns-in_ok-called-in-Resource-clause-number
returns-in_ok-called-in-Resource-clause-number c =
    let s = c.args.source.now in
    let e = ap (λ (t : AnyType). source_tree s t) c.in-Resource.is ∙ resource_is s.types.now (names_in s.types.now s.calls.now) c.in-Resource.id (called_view c.in_ok-called-in-Resource.called) c.in_ok-called-in-Resource.ensures in
    answer_same c.add.result c.add.new.nodes _ _ (sym e) c.add.ensures.number

pub returns-in-Module-clause-right : goal.returns-in-Module-clause-right
returns-in-Module-clause-right c =
    let t = source_tree c.args.source.now in
    on_ok (IsRight t c.args.self.now c.module_type.new.nodes) c.module_type.result (right_grown t c.args.self.now c.args.nodes.now c.module_type.new.nodes c.module_type.ensures.grown c.requires.right)
